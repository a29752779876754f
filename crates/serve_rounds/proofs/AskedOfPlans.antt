-- What was asked of a plan, part by part and peer by peer.
use Rattle.std.proofs.Common.{◌≡◌, ℕ, ◌+◌, ◌<◌, Bool, true, false, List, [], ◌∷◌, ◌++◌, take, length, get_or, Option}
use Rattle.std.proofs.{Common.{Some, None, inl, inr, refl, sym, ap, subst, ◌∙◌}, lemmas.List.{append-nil, map-append}}
use Rattle.std.proofs.lemmas.List.{take_more, Elements.filter_map-append, Concat.flat_map-append}
use Rattle.std.specs.Prelude.{option_to_list, option_map, filter_map, flat_map, if◌then◌else◌}
use Rattle.dir_values.specs.declared.digest.Fingerprint.{Fingerprint}
use Rattle.station_input.specs.declared.facts.Peer.{Peer}
use Rattle.dir_http.specs.Responses.{post_text}
use Rattle.serve_rounds.specs.{Exchanges.{AsksSome, LinkSteps, MayAsk, Whatever}, Plans.{Asking, GetVote}}
use Rattle.serve_rounds.specs.Plans.{GetSignatures, Planned, address_of, limit_of, peers_among, request_of, to_each}
use Rattle.serve_rounds.specs.Plans.{votes_at}

-- ---- of a plan

module _ {L : Type 0} (steps : LinkSteps L) where
  -- nothing of it
  pub asks_none : (Due : Asking → Type 0) (plan : List Planned) (a : L) → AsksSome steps Due plan a a
  asks_none Due [] a = refl
  asks_none Due (one ∷ plan) a = inl (asks_none Due plan a)

  -- some of one, and next of another
  pub asks_on : (Due : Asking → Type 0) (first second : List Planned) (a b c : L) → AsksSome steps Due first a b
      → AsksSome steps Due second b c → AsksSome steps Due (first ++ second) a c
  asks_on Due [] second a b c before next = subst (λ (l : L). AsksSome steps Due second l c) before next
  asks_on Due (one ∷ first) second a b c (inl before) next = inl (asks_on Due first second a b c before next)
  asks_on Due (one ∷ first) second a b c (inr (m, answer, due, step, before)) next =
      inr (m, answer, due, step, asks_on Due first second m b c before next)

  -- for a wider cause
  pub asks_wider : (Due Wider : Asking → Type 0) → ((asking : Asking) → Due asking → Wider asking)
      → (plan : List Planned) (a b : L) → AsksSome steps Due plan a b → AsksSome steps Wider plan a b
  asks_wider Due Wider wider [] a b asks = asks
  asks_wider Due Wider wider (one ∷ plan) a b (inl asks) = inl (asks_wider Due Wider wider plan a b asks)
  asks_wider Due Wider wider (one ∷ plan) a b (inr (m, answer, due, step, asks)) =
      inr (m, answer, wider one.1 due, step, asks_wider Due Wider wider plan m b asks)

  -- one thing of one peer, or nothing
  pub asks_one : (Due : Asking → Type 0) (peer : List ℕ) (asking : Asking) (a b : L) → Due asking
      → MayAsk steps peer (request_of asking) (limit_of asking) a b → AsksSome steps Due ((peer, asking) ∷ []) a b
  asks_one Due peer asking a b due (inl none) = inl none
  asks_one Due peer asking a b due (inr (answer, step)) = inr (b, answer, due, step, refl)

  -- the same over a longer time
  pub asks_there : (Due Wider : Asking → Type 0) → ((asking : Asking) → Due asking → Wider asking)
      → (plan : List Planned) (a b c : L) → c ≡ b → AsksSome steps Due plan a b → AsksSome steps Wider (plan ++ []) a c
  asks_there Due Wider wider plan a b c same asks =
      subst (λ (p : List Planned). AsksSome steps Wider p a c) (sym (append-nil plan))
      (subst (λ (l : L). AsksSome steps Wider plan a l) (sym same) (asks_wider Due Wider wider plan a b asks))

-- ---- the peers so far and the next authority

module _ {X : Type 0} (xs : List X) (i : ℕ) (x : X) (lt : i < length xs) (is : x ≡ get_or xs i x) where
  -- the items so far and the next one
  pub taken : take (i + 1) xs ≡ take i xs ++ x ∷ []
  taken = take_more xs i x lt ∙ ap (λ y. take i xs ++ y ∷ []) (sym is)

pub filter_map_one : {X Y : Type 0} (f : X → Option Y) (x : X) (o : Option Y) → f x ≡ o
    → filter_map f (x ∷ []) ≡ option_to_list o
filter_map_one f x None is = rw is refl
filter_map_one f x (Some y) is = rw is refl

module _ (own : Fingerprint) (xs : List Peer) (i : ℕ) (x : Peer) (lt : i < length xs) (is : x ≡ get_or xs i x) where
  pub peers_taken : peers_among own (take (i + 1) xs)
      ≡ peers_among own (take i xs) ++ option_to_list (address_of own x)
  peers_taken =
      ap (peers_among own) (taken xs i x lt is) ∙ filter_map-append (address_of own) (take i xs) (x ∷ [])
      ∙ ap (λ l. peers_among own (take i xs) ++ l) (filter_map_one (address_of own) x (address_of own x) refl)

-- ---- a plan for each peer

-- A plan for peers is made of a plan for each.
pub record IsByPeer (plan_of : List (List ℕ) → List Planned) : Type 0 where
  pub none : plan_of [] ≡ []
  pub more : (xs ys : List (List ℕ)) → plan_of (xs ++ ys) ≡ plan_of xs ++ plan_of ys

pub each_by_peer : (asking : Asking) → IsByPeer (λ peers. to_each peers asking)
each_by_peer asking = record { none = refl; more = λ xs ys. map-append (λ (peer : List ℕ). (peer, asking)) xs ys }

pub votes_by_peer : (authorities : List Peer) → IsByPeer (flat_map (votes_at authorities))
votes_by_peer authorities = record { none = refl; more = flat_map-append (votes_at authorities) }

module _ {L : Type 0} (steps : LinkSteps L) (Due : Asking → Type 0)
    (plan_of : List (List ℕ) → List Planned) (by_peer : IsByPeer plan_of) (own : Fingerprint) (xs : List Peer) (i : ℕ)
    (x : Peer) (items : List Peer) (all : items ≡ xs) (lt : i < length items) (is : x ≡ get_or items i x) (a b c : L)
    (before : AsksSome steps Due (plan_of (peers_among own (take i xs))) a b) where
  -- with what the next authority is asked, if it is a peer
  peers_on : (o : Option (List ℕ)) → o ≡ address_of own x → AsksSome steps Due (plan_of (option_to_list o)) b c
      → AsksSome steps Due (plan_of (peers_among own (take (i + 1) xs))) a c
  peers_on o told next =
      subst (λ (p : List Planned). AsksSome steps Due p a c)
      (sym (ap plan_of (peers_taken own xs i x (subst (λ (l : List Peer). i < length l) all lt)
      (subst (λ (l : List Peer). x ≡ get_or l i x) all is) ∙ ap (λ l. peers_among own (take i xs) ++
      option_to_list l) (sym told))
      ∙ by_peer.more (peers_among own (take i xs)) (option_to_list o)))
      (asks_on steps Due (plan_of (peers_among own (take i xs))) (plan_of (option_to_list o)) a b c before next)

  -- one that is a peer
  pub peer_more : {B : Type 0} (now : B → List ℕ) (o : Option B) (address : B) → o ≡ Some address
      → option_map now o ≡ address_of own x → AsksSome steps Due (plan_of (now address ∷ [])) b c
      → AsksSome steps Due (plan_of (peers_among own (take (i + 1) xs))) a c
  peer_more now o address some told next =
      peers_on (Some (now address)) (sym (ap (option_map now) some) ∙ told) next

  -- one that is none
  pub stranger_more : {B : Type 0} (now : B → List ℕ) (o : Option B) → o ≡ None
      → option_map now o ≡ address_of own x → c ≡ b
      → AsksSome steps Due (plan_of (peers_among own (take (i + 1) xs))) a c
  stranger_more now o none told same =
      peers_on None (sym (ap (option_map now) none) ∙ told)
      (subst (λ (p : List Planned). AsksSome steps Due p b c) (sym by_peer.none) same)

-- one peer is brought something, or nothing
pub asks_bring : {L : Type 0} (steps : LinkSteps L) (peer : List ℕ)
    (asking : Asking) (path body : List ℕ) (a b c : L) → request_of asking ≡ post_text path body
    → limit_of asking ≡ 65536 → c ≡ b → MayAsk steps peer (post_text path body) 65536 a b
    → AsksSome steps Whatever ((peer, asking) ∷ []) a c
asks_bring {L} steps peer asking path body a b c request limit same may =
    subst (λ (l : L). AsksSome steps Whatever ((peer, asking) ∷ []) a l) (sym same)
    (asks_one steps Whatever peer asking a b tt
    (subst (λ (r : List ℕ). MayAsk steps peer r (limit_of asking) a b) (sym request)
    (subst (λ (n : ℕ). MayAsk steps peer (post_text path body) n a b) (sym limit) may)))

-- ---- what was asked of each peer alike

module _ {L : Type 0} (steps : LinkSteps L) (Due : Asking → Type 0) (asking : Asking) (due : Due asking) where
  pub each_due : (peers : List (List ℕ)) (a b : L) → AsksSome steps Whatever (to_each peers asking) a b
      → AsksSome steps Due (to_each peers asking) a b
  each_due [] a b asks = asks
  each_due (peer ∷ peers) a b (inl asks) = inl (each_due peers a b asks)
  each_due (peer ∷ peers) a b (inr (m, answer, is, step, asks)) = inr (m, answer, due, step, each_due peers m b asks)

-- what was asked of the peers for their signatures, if anything was
pub gathers_due : {L : Type 0} (steps : LinkSteps L) (Due : Asking → Type 0) → Due GetSignatures
    → (peers : List (List ℕ)) (done : Bool) (a b : L)
    → AsksSome steps Whatever (if done then [] else to_each peers GetSignatures) a b
    → AsksSome steps Due (if done then [] else to_each peers GetSignatures) a b
gathers_due steps Due due peers true a b asks = asks
gathers_due steps Due due peers false a b asks = each_due steps Due GetSignatures due peers a b asks

-- ---- the votes of which one peer is asked

module _ {L : Type 0} (steps : LinkSteps L) (Due : Asking → Type 0) (peer : List ℕ) (xs items : List Peer)
    (all : items ≡ xs) (i : ℕ) (x : Peer) (lt : i < length items) (is : x ≡ get_or items i x) (a b c : L) where
  -- with the next one
  pub votes_more : AsksSome steps Due (votes_at (take i xs) peer) a b
      → AsksSome steps Due ((peer, GetVote x.identity) ∷ []) b c
      → AsksSome steps Due (votes_at (take (i + 1) xs) peer) a c
  votes_more before next =
      let more = taken xs i x (subst (λ (l : List Peer). i < length l) all lt)
      (subst (λ (l : List Peer). x ≡ get_or l i x) all is) in
      subst (λ (p : List Planned). AsksSome steps Due p a c)
      (sym (ap (λ (l : List Peer). votes_at l peer) more
      ∙ map-append (λ (member : Peer). (peer, GetVote member.identity)) (take i xs) (x ∷ [])))
      (asks_on steps Due (votes_at (take i xs) peer) ((peer, GetVote x.identity) ∷ []) a b c before next)

-- one peer was asked for its signatures, or not
pub asks_gather : {L : Type 0} (steps : LinkSteps L) (peer : List ℕ) (a b c : L) → c ≡ b
    → MayAsk steps peer (request_of GetSignatures) 1064960 a b
    → AsksSome steps Whatever ((peer, GetSignatures) ∷ []) a c
asks_gather {L} steps peer a b c same may =
    subst (λ (l : L). AsksSome steps Whatever ((peer, GetSignatures) ∷ []) a l) (sym same)
    (asks_one steps Whatever peer GetSignatures a b tt may)

-- signatures that were held when they were asked for

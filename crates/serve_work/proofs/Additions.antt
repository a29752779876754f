-- What a pass added at both locks, over several events and readings.
use Rattle.std.proofs.Common.{◌≡◌, ◌⊎◌, ℕ, Bool, true, false, List, [], ◌∷◌, ◌++◌, Some, None, inl, inr, refl, sym, ap}
use Rattle.std.proofs.{Common.{◌∙◌, subst, append-nil, option_to_list}, lemmas.List.{map-append, Elements.All-append}}
use Rattle.std.{proofs.lemmas.List.Elements.{All-nil, All-weaker}, specs.Prelude.{IfSome, All, if◌then◌else◌}}
use Rattle.key_port.specs.{Answers.{Relation, Rules}, Signing.SignerSteps}
use Rattle.descriptor_doc.specs.declared.descriptor.Descriptor.{Descriptor}
use Rattle.flag_rules.specs.declared.{relay.RelayFacts.RelayFacts, ruling.Ruling.Ruling}
use Rattle.station_input.specs.declared.facts.StationFacts.{StationFacts}
use Rattle.vote_pool.specs.declared.answers.Keep.{Keep}
use Rattle.period_lock.specs.Turns.{entries, entry_by}
use Rattle.period_terms.specs.declared.{answer.Answer.Answer, entry.Entry.Entry, event.Event.Event}
use Rattle.period_terms.specs.declared.{event.Event.TheVariants.SignedIn, signature.OfferedSignature.OfferedSignature}
use Rattle.period_terms.specs.{declared.state.State.State, Histories.{after, entry_if}, Steps.{step, changes}}
use Rattle.period_laws.specs.{Checked.{IsChecked, IsCheckedHistory, anything, events_of}, Periods.Along}
use Rattle.serve_board.specs.{Boards.{Locks, Parts, Makes, Stores}, Stocks.kept_if, Going.Goes}
use Rattle.serve_board.proofs.Going.{goes_same, goes_on, goes_makes, goes_stores}
use Rattle.serve_rounds.specs.{Duties.{IsAdvance, IsGathered, IsRound}, Spans.{AddedKind, Adds}}
use Rattle.serve_rounds.proofs.{Adding.{all_one, entry_by-map, own_more}, Lasting.{Lasts, advance_lasts, round_lasts}}
use Rattle.serve_work.specs.Workers.{IsUploaded, IsWork, Works}

-- ---- passes

module _ (P : AddedKind) (D : Descriptor → Type 0) where
  -- a pass that is as it was
  pub works_same : (a : Parts) → Works P D a a
  works_same a = record {
    added = [];
    each = All-nil (P a a);
    mine = sym (append-nil a.state.mine);
    kept = [];
    each_kept = All-nil D;
    pool = sym (append-nil a.pool.mine);
    goes = goes_same a;
  }

  pub works_still : (a b : Parts) → b ≡ a → Works P D a b
  works_still a b is = subst (Works P D a) (sym is) (works_same a)

  -- one that added nothing
  pub works_none : (a b : Parts) → b.state.mine ≡ a.state.mine → b.pool.mine ≡ a.pool.mine → Goes a b
      → Works P D a b
  works_none a b mine pool goes = record {
    added = [];
    each = All-nil (P a b);
    mine = mine ∙ sym (append-nil a.state.mine);
    kept = [];
    each_kept = All-nil D;
    pool = pool ∙ sym (append-nil a.pool.mine);
    goes = goes;
  }

  -- one that added entries of the kind
  pub works_adds : (a b : Parts) → Adds P a b → Works P D a b
  works_adds a b adds = record {
    added = adds.added;
    each = adds.each;
    mine = adds.mine;
    kept = [];
    each_kept = All-nil D;
    pool = adds.pool ∙ sym (append-nil a.pool.mine);
    goes = adds.goes;
  }

  -- one that made an event whose entry, if it has one, is of the kind
  pub works_makes : (rules : Rules) (board : Locks) (a b : Parts) (event : Event) (answer : Answer)
      → IfSome (entry_if event answer) (P a b) → Makes rules board a b event answer → Works P D a b
  works_makes rules board a b event answer is makes = record {
    added = option_to_list (entry_if event answer);
    each = all_one (P a b) (entry_if event answer) is;
    mine = makes.takes.mine
        ∙ ap (λ l. a.state.mine ++ l) (entry_by-map a.state.number (entry_if event answer));
    kept = [];
    each_kept = All-nil D;
    pool = ap (λ k. k.mine) makes.pool ∙ sym (append-nil a.pool.mine);
    goes = goes_makes rules board a b event answer makes;
  }

  -- one that kept a descriptor that is such, or did not
  pub works_stores : (rules : Rules) (board : Locks) (a b : Parts) (descriptor : Descriptor) (answer : Keep)
      → IfSome (kept_if descriptor answer) D → Stores rules board a b descriptor answer → Works P D a b
  works_stores rules board a b descriptor answer is stores = record {
    added = [];
    each = All-nil (P a b);
    mine = ap (λ k. k.mine) stores.state ∙ sym (append-nil a.state.mine);
    kept = option_to_list (kept_if descriptor answer);
    each_kept = all_one D (kept_if descriptor answer) is;
    pool = stores.takes.mine ∙ ap (λ l. a.pool.mine ++ l) (entry_by-map a.pool.number (kept_if descriptor answer));
    goes = goes_stores rules board a b descriptor answer stores;
  }

  -- and one that adds more
  pub works_more : (lasts : Lasts P) (a b c : Parts) → Works P D a b → Works P D b c → Works P D a c
  works_more lasts a b c g h = record {
    added = g.added ++ h.added;
    each =
        All-append (P a c) g.added h.added
        (All-weaker (P a b) (P a c) (λ e p. lasts.later a b c e h.goes p) g.added g.each)
        (All-weaker (P b c) (P a c) (λ e p. lasts.earlier a b c e g.goes p) h.added h.each);
    mine = own_more a.state.number b.state.number a.state.mine b.state.mine c.state.mine g.added h.added
        g.goes.state.number g.mine h.mine;
    kept = g.kept ++ h.kept;
    each_kept = All-append D g.kept h.kept g.each_kept h.each_kept;
    pool = own_more a.pool.number b.pool.number a.pool.mine b.pool.mine c.pool.mine g.kept h.kept
        g.goes.pool.number g.pool h.pool;
    goes = goes_on a b c g.goes h.goes;
  }

-- a descriptor that was taken in, if it was
pub kept_such : (D : Descriptor → Type 0) (changed : Bool) (descriptor : Descriptor) → D descriptor
    → IfSome (if changed then Some descriptor else None) D
kept_such D true descriptor is = is
kept_such D false descriptor is = tt

-- ---- what was checked

last_along : (Fact : State → Event → Type 0) (story : List Entry) (s : State) (entry : Entry)
    → Along Fact s (events_of (story ++ entry ∷ [])) → Fact (after s story) entry.event
last_along Fact [] s entry h = h.0
last_along Fact (e ∷ story) s entry h = last_along Fact story (step s e.event).after entry h.1

-- a signature that was added was accepted by the key that it names
gathered_if : (rules : Rules) (start : State) (changed : Bool) (story : List (ℕ × Entry)) (number : ℕ)
    (signature : OfferedSignature) (answer : Answer)
    → IsCheckedHistory rules start (entries (story ++ entry_by number
    (if changed then Some (record { event = SignedIn signature; answer = answer }) else None)))
    → IfSome (if changed then Some (record { event = SignedIn signature; answer = answer }) else None)
    (IsGathered rules)
gathered_if rules start true story number signature answer is =
    let entry : Entry = record { event = SignedIn signature; answer = answer } in
    let whole : IsCheckedHistory rules start (entries story ++ entry ∷ []) =
    subst (λ (l : List Entry). IsCheckedHistory rules start l)
    (map-append (λ (e : ℕ × Entry). e.1) story ((number, entry) ∷ [])) is in
    record {
      signature = signature;
      event = refl;
      accepted = last_along (IsChecked anything rules) (entries story) start entry whole.checked;
    }
gathered_if rules start false story number signature answer is = tt

pub signed_in : (rules : Rules) (board : Locks) (a b : Parts) (signature : OfferedSignature) (answer : Answer)
    → Makes rules board a b (SignedIn signature) answer
    → IfSome (entry_if (SignedIn signature) answer) (IsGathered rules)
signed_in rules board a b signature answer makes =
    gathered_if rules board.state.start (changes answer) makes.takes.story a.state.number signature answer
    (subst (λ (l : List (ℕ × Entry)). IsCheckedHistory rules board.state.start (entries l)) makes.takes.seen
    makes.takes.is_story)

-- ---- the work of workers

module _ {N C : Type 0} (rules : Rules) (gives : Relation) (steps : SignerSteps N)
    (allows : RelayFacts → Ruling → Bool) (station : StationFacts) (last : C → ℕ) (board : Locks) where
  abbrev Is : ℕ → Parts → Parts → Entry → Type 0
  Is now from to entry =
      IsAdvance gives rules board now from to entry
      ⊎ IsRound rules gives steps allows station board now from to entry ⊎ IsUploaded rules now entry

  is_earlier : (now : ℕ) (a b c : Parts) (e : Entry) → Goes a b → Is now b c e → Is now a c e
  is_earlier now a b c e goes (inl advance) =
      inl ((advance_lasts gives rules board now).earlier a b c e goes advance)
  is_earlier now a b c e goes (inr (inl round)) =
      inr (inl ((round_lasts rules gives steps allows station board now).earlier a b c e goes round))
  is_earlier now a b c e goes (inr (inr uploaded)) = inr (inr uploaded)

  is_later : (now : ℕ) (a b c : Parts) (e : Entry) → Goes b c → Is now a b e → Is now a c e
  is_later now a b c e goes (inl advance) = inl ((advance_lasts gives rules board now).later a b c e goes advance)
  is_later now a b c e goes (inr (inl round)) =
      inr (inl ((round_lasts rules gives steps allows station board now).later a b c e goes round))
  is_later now a b c e goes (inr (inr uploaded)) = inr (inr uploaded)

  -- it lasts
  pub work_lasts : Lasts (IsWork rules gives steps allows station last board)
  work_lasts = record {
    earlier = λ a b c e goes p.
        record { now = p.now; of_clock = p.of_clock; is = is_earlier p.now a b c e goes p.is };
    later = λ a b c e goes p.
        record { now = p.now; of_clock = p.of_clock; is = is_later p.now a b c e goes p.is };
  }

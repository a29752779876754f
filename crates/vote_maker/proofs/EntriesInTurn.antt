-- The entries of relays, one relay after the other.
use Rattle.std.proofs.Common.{◌≡◌, ℕ, suc, ◌+◌, ◌<◌, Bool, List, ◌∷◌, ◌++◌, length, get_or, drop, ◌≤◌, sym, ap, ap₂}
use Rattle.std.proofs.{Common.{◌∙◌, arith, append_assoc}, lemmas.List.{append-nil, drop_all}}
use Rattle.count_terms.specs.declared.newest.Newest.{Newest}
use Rattle.descriptor_doc.specs.declared.descriptor.Descriptor.{Descriptor}
use Rattle.flag_rules.specs.{Relays.ruled_relays, declared.{flags.Flags.Flags, relay.RelayFacts.RelayFacts}}
use Rattle.flag_rules.specs.declared.ruling.Ruling.{Ruling}
use Rattle.vote_terms.specs.declared.entry.EntryFacts.{EntryFacts}
use Rattle.vote_pool.specs.Kept.{signer_of}
use Rattle.vote_maker.specs.{Listings.{JudgedRelay, judged_relays}, Private.{AreAsMany, AreBetween, Keys, entries_from}}
use Rattle.vote_maker.{specs.Private.{entries_text, entry_if, is_listed, keys_after}, proofs.EntryTexts.texts}
use Rattle.vote_maker.proofs.Judged.{judged_at, judged_drop}

module _ (newest : Newest) (ds : List Descriptor) (ks : List RelayFacts) (rs : List Ruling) (fs : List Flags) where
  abbrev relays : List JudgedRelay
  relays = judged_relays ds (ruled_relays ks rs) fs

  -- the entries from a place on
  pub at_place : (i : ℕ) (d : Descriptor) (k : RelayFacts) (r : Ruling) (f : Flags) (keys : Keys) → i < length ds
      → AreAsMany ds ks rs fs → d ≡ get_or ds i d → k ≡ get_or ks i k → r ≡ get_or rs i r → f ≡ get_or fs i f
      → entries_from newest keys (drop i relays)
      ≡ entry_if newest (is_listed keys r (signer_of d.identity_ed25519)) d k f
      ++ entries_from newest (keys_after keys r (signer_of d.identity_ed25519)) (drop (i + 1) relays)
  at_place i d k r f keys within many at_d at_k at_r at_f =
      let one : suc i ≡ i + 1 = omega arith in
      let there : drop i relays ≡ judged_at d k r f ∷ drop (i + 1) relays =
      judged_drop ds ks rs fs i d k r f within many.known_are many.rulings_are many.flags_are
      ∙ ap₂ (λ (a : JudgedRelay) (l : List JudgedRelay). a ∷ l)
      (ap₂ (λ (x : Descriptor) (y : RelayFacts). judged_at x y (get_or rs i r) (get_or fs i f)) (sym at_d) (sym at_k)
      ∙ ap₂ (λ (x : Ruling) (y : Flags). judged_at d k x y) (sym at_r) (sym at_f))
      (ap (λ (n : ℕ). drop n relays) one) in
      ap (λ (l : List JudgedRelay). entries_from newest keys l) there

  -- with the entry of one more, if it has one
  pub one_more_entry_listed : (i : ℕ) (d : Descriptor) (k : RelayFacts) (r : Ruling) (f : Flags) (keys new : Keys) (listed : Bool)
      (out more all : List EntryFacts) → i < length ds → AreAsMany ds ks rs fs → d ≡ get_or ds i d → k ≡ get_or ks i k
      → r ≡ get_or rs i r → f ≡ get_or fs i f → listed ≡ is_listed keys r (signer_of d.identity_ed25519)
      → new ≡ keys_after keys r (signer_of d.identity_ed25519) → more ≡ out ++ entry_if newest listed d k f
      → out ++ entries_from newest keys (drop i relays) ≡ all → more ++ entries_from newest new (drop (i + 1) relays) ≡ all
  one_more_entry_listed i d k r f keys new listed out more all within many at_d at_k at_r at_f its after put before =
      let its_entry = entry_if newest (is_listed keys r (signer_of d.identity_ed25519)) d k f in
      let rest = entries_from newest (keys_after keys r (signer_of d.identity_ed25519)) (drop (i + 1) relays) in
      ap₂ (λ (l : List EntryFacts) (s : Keys). l ++ entries_from newest s (drop (i + 1) relays))
      (put ∙ ap (λ (b : Bool). out ++ entry_if newest b d k f) its) after
      ∙ append_assoc out its_entry rest
      ∙ ap (λ (l : List EntryFacts). out ++ l) (sym (at_place i d k r f keys within many at_d at_k at_r at_f))
      ∙ before

-- where no relay is left
pub none_left : (newest : Newest) (judged : List JudgedRelay) (i : ℕ) (keys : Keys) (out all : List ℕ) → length judged ≤ i
    → out ++ entries_text (entries_from newest keys (drop i judged)) ≡ all → out ≡ all
none_left newest judged i keys out all past before =
    sym (append-nil out)
    ∙ ap (λ (l : List JudgedRelay). out ++ entries_text (entries_from newest keys l)) (sym (drop_all i judged past))
    ∙ before

-- with the text of the entries of one more part
pub one_more_part : (newest : Newest) (judged : List JudgedRelay) (start end : ℕ) (old new : Keys) (entries : List EntryFacts)
    (out more all : List ℕ) → AreBetween newest judged start end old entries new → more ≡ out ++ entries_text entries
    → out ++ entries_text (entries_from newest old (drop start judged)) ≡ all
    → more ++ entries_text (entries_from newest new (drop end judged)) ≡ all
one_more_part newest judged start end old new entries out more all between put before =
    let rest = entries_from newest new (drop end judged) in
    ap (λ (l : List ℕ). l ++ entries_text rest) put
    ∙ append_assoc out (entries_text entries) (entries_text rest)
    ∙ ap (λ (l : List ℕ). out ++ l) (sym (texts entries rest) ∙ ap (λ (l : List EntryFacts). entries_text l) between)
    ∙ before

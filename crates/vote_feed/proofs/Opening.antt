-- Where nothing is known of the rest, nothing is known of the document.
use Rattle.std.proofs.Common.{◌≡◌, ◌∙◌, ℕ, ◌≤◌, false, List, [], ◌++◌, length, Result, Ok, Err, refl, sym, ap, inl, inr}
use Rattle.std.proofs.{Common.arith, lemmas.{Bool.cases_lt, List.{append_cancel_left, take-append-le, take_all}}}
use Rattle.item_terms.specs.Items.{Contents, contents, nothing}
use Rattle.dirdoc_grammar.specs.{declared.cursor.Cursor.Cursor, Cursors.fed_by, Feeding.{first_by, first_of, left_with}}
use Rattle.dirdoc_grammar.specs.Writing.{in_front}
use Rattle.item_feeder.proofs.BehindLimit.{limit_is_enough}
use Rattle.frame_terms.specs.declared.{document.{Open.Open, Taken.Taken}, fault.ReadRefusal.ReadRefusal}
use Rattle.frame_terms.specs.{Documents.{Document, document_of, finish, read_items}, Tables.Tables}
use Rattle.frame_reader.specs.Arriving.{whole_of}
use Rattle.document_laws.{specs.Known.HasNoDoc, proofs.Opening.all_is_open}
use Rattle.vote_feed.{specs.SoFar.{Waits, used_of}, proofs.Going.made_on}

-- ---- a document of which nothing is kept

abbrev nothing_with : {S V : Type 0} → Unit {0} → S → List (Taken V) → Unit {0}
nothing_with kept section taken = kept

abbrev lifted : Result ℕ ReadRefusal → Result (Unit {0} × ℕ) ReadRefusal
lifted (Ok used) = Ok (tt, used)
lifted (Err refusal) = Err refusal

alone : (u : Unit {0}) → u ≡ tt
alone u = refl

kept_nothing : {S V : Type 0} (d : Result (Document S V) ReadRefusal)
    → finish nothing_with tt d ≡ lifted (used_of d)
kept_nothing (Ok document) = ap (λ (u : Unit {0}). Ok (u, document.used)) (alone _)
kept_nothing (Err refusal) = refl

module _ {S K V X F : Type 0} (with_ : F → S → List (Taken V) → F) (none : F) (tables : Tables S K V X)
    (limit : ℕ) where
  -- what the document is depends on what follows
  pub open_now : HasNoDoc tables → (bytes : List ℕ) (cursor : Cursor) (across : X) (open_ : Open S V) (facts : F)
      → Waits with_ none tables limit bytes cursor across open_ facts → (end : Result ℕ ReadRefusal)
      → ((more : List ℕ)
      → used_of (document_of tables (length (bytes ++ more)) (contents limit 0 nothing (bytes ++ more))) ≡ end)
      → ⊥
  open_now sound bytes cursor across open_ facts waits end is =
      let so = waits.so_far in
      let read : (n : ℕ) (more : List ℕ) → whole_of nothing_with tables tt cursor.limit n (bytes ++ more)
      ≡ lifted (used_of (document_of tables n (contents limit 0 nothing (bytes ++ more)))) =
      λ n more.
      ap (λ (k : ℕ). whole_of nothing_with tables tt k n (bytes ++ more)) so.bound
      ∙ kept_nothing (document_of tables n (contents limit 0 nothing (bytes ++ more))) in
      all_is_open (Unit {0}) tables sound nothing_with tt tt bytes cursor across open_ so.reads (
        (λ n more.
            read n more
            ∙ ap lifted (made_on with_ none tables limit bytes cursor across open_ facts so n more)
            ∙ sym (kept_nothing (read_items tables n across open_ (left_with (fed_by cursor bytes false) more).fault
            (left_with (fed_by cursor bytes false) more).items))),
        waits.unsettled,
      )
      (lifted end) (λ more. read (length (bytes ++ more)) more ∙ ap lifted (is more))

  -- of more bytes than the document may have something is known
  pub not_beyond : (bytes : List ℕ) (cursor : Cursor) (across : X) (open_ : Open S V) (facts : F)
      → Waits with_ none tables limit bytes cursor across open_ facts → length bytes ≤ limit
  not_beyond bytes cursor across open_ facts waits = elim (cases_lt limit (length bytes)) [
    | inl lt ↦
        let so = waits.so_far in
        let rest : List ℕ → Contents = λ more. left_with (fed_by cursor bytes false) more in
        let all : (more : List ℕ) → contents limit 0 nothing (bytes ++ more) ≡ contents limit 0 nothing bytes =
        λ more.
        sym (limit_is_enough limit 0 (length bytes) nothing (bytes ++ more) (omega arith) (omega (arith, lt)))
        ∙ ap (λ (l : List ℕ). contents limit 0 nothing l)
        (take-append-le (length bytes) bytes more (omega arith) ∙ take_all (length bytes) bytes (omega arith)) in
        let same : (more : List ℕ) → in_front so.front (rest more) ≡ in_front so.front (rest []) =
        λ more. sym (so.items more) ∙ all more ∙ sym (all []) ∙ so.items [] in
        absurd (waits.unsettled (first_of (rest [])) (λ more may.
        let items =
        append_cancel_left so.front (rest more).items (rest []).items
        (ap (λ (c : Contents). c.items) (same more)) in
        let fault = ap (λ (c : Contents). c.fault) (same more) in
        λ i. first_by (fault i) (items i)))
    | inr le ↦ le
  ]

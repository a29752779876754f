-- What is told of some lines of detached signatures, and of one line more.
use Rattle.std.proofs.Common.{◌≡◌, ℕ, ◌+◌, ◌<◌, ◌≤◌, Bool, true, false, not, Option, Some, None, List, [], ◌∷◌, ◌++◌}
use Rattle.std.proofs.Common.{length, map, take, drop, get_or, Ok, Err, inl, inr, ⊎_elim, refl, sym, ap, subst, ◌∙◌}
use Rattle.std.proofs.{Common.{arith, length-append}, lemmas.{Bool.cases_lt, List.{append-nil, map_push}}}
use Rattle.std.{proofs.lemmas.List.Elements.{All-nil, All-push, filter-append, filter_map-append}, specs.Prelude.All}
use Rattle.std.specs.{Prelude.{filter, is_none, if◌then◌else◌}, List.{cons_option, filter_map}}
use Rattle.key_port.specs.Answers.{Rules, Steps}
use Rattle.key_port.specs.declared.verifier.VerifyAnswer.TheVariants as answer
use Rattle.detached_sigs.proofs.Asking.{parted, taken}
use Rattle.detached_doc.specs.declared.detached.{Detached.Detached, DetachedLine.DetachedLine}
use Rattle.period_terms.specs.declared.{signature.OfferedSignature.OfferedSignature, view.PeriodView.PeriodView}
use Rattle.checked_sigs.specs.{Asking.{offered_by, offered_lines}, declared.report.SigRefusal.SigRefusal}
use Rattle.checked_sigs.specs.Checks.{AddsLine, Asks, AsksEach, FailsAt, FailsAtLine, FailsLine, FailsLines, IsJudgedBy}
use Rattle.checked_sigs.specs.Checks.{Judgement, Tally, TellsLines, answer_of, skipped_count, tally_of, with_bad}
use Rattle.checked_sigs.specs.Checks.{with_checked, with_skipped}
use Rattle.checked_sigs.specs.declared.report.SigRefusal.TheVariants as the

-- ---- what is asked

-- one question more
asks_more : {V : Type 0} (steps : Steps V) (judged : List Judgement) (one : Judgement) (old between new : V)
    → AsksEach steps judged old between → Asks steps one.0 between (answer_of one.1) new
    → AsksEach steps (judged ++ one ∷ []) old new
asks_more {V} steps [] one old between new h a =
    (new, subst (λ (v : V). Asks steps one.0 v (answer_of one.1) new) h a, refl)
asks_more steps (first ∷ rest) one old between new h a =
    (h.0, h.1, asks_more steps rest one h.0 between new h.2 a)

-- ---- a line more

-- what is offered of a line more, which gives nothing
offered_none : (h : DetachedLine → Option OfferedSignature) (lines : List DetachedLine) (line : DetachedLine)
    → h line ≡ None → filter_map h (lines ++ line ∷ []) ≡ filter_map h lines
offered_none h lines line is =
    filter_map-append h lines (line ∷ [])
    ∙ ap (λ (o : Option OfferedSignature). filter_map h lines ++ cons_option o []) is ∙ append-nil (filter_map h lines)

-- which gives one
offered_one : (h : DetachedLine → Option OfferedSignature) (lines : List DetachedLine) (line : DetachedLine)
    (sig : OfferedSignature) → h line ≡ Some sig
    → filter_map h (lines ++ line ∷ []) ≡ filter_map h lines ++ sig ∷ []
offered_one h lines line sig is =
    filter_map-append h lines (line ∷ [])
    ∙ ap (λ (o : Option OfferedSignature). filter_map h lines ++ cons_option o []) is

-- those that pass, with one that does
kept_more : {X : Type 0} (p : X → Bool) (xs : List X) (x : X) → p x ≡ true
    → filter p (xs ++ x ∷ []) ≡ filter p xs ++ x ∷ []
kept_more {X} p xs x is =
    filter-append p xs (x ∷ []) ∙ ap (λ (b : Bool). filter p xs ++ (if b then x ∷ [] else [])) is

-- with one that does not
kept_same : {X : Type 0} (p : X → Bool) (xs : List X) (x : X) → p x ≡ false → filter p (xs ++ x ∷ []) ≡ filter p xs
kept_same {X} p xs x is =
    filter-append p xs (x ∷ []) ∙ ap (λ (b : Bool). filter p xs ++ (if b then x ∷ [] else [])) is
    ∙ append-nil (filter p xs)

count_more : {X : Type 0} (p : X → Bool) (xs : List X) (x : X) (n : ℕ) → p x ≡ true → n ≡ length (filter p xs)
    → n + 1 ≡ length (filter p (xs ++ x ∷ []))
count_more {X} p xs x n is count =
    ap (λ (m : ℕ). m + 1) count
    ∙ sym (ap (λ (l : List X). length l) (kept_more p xs x is) ∙ length-append (filter p xs) (x ∷ []))

count_same : {X : Type 0} (p : X → Bool) (xs : List X) (x : X) (n : ℕ) → p x ≡ false → n ≡ length (filter p xs)
    → n ≡ length (filter p (xs ++ x ∷ []))
count_same {X} p xs x n is count = count ∙ sym (ap (λ (l : List X). length l) (kept_same p xs x is))

module _ {V : Type 0} (rules : Rules) (steps : Steps V) (view : PeriodView) (d : Detached) (lines : List DetachedLine)
    (line : DetachedLine) (before : Tally) (old between new : V)
    (tells : TellsLines rules steps view d lines before old between) where
  abbrev is_skipped : DetachedLine → Bool
  is_skipped l = is_none (offered_by view d l)

  -- with a line that is skipped
  pub told_skipped : offered_by view d line ≡ None → new ≡ between
      → TellsLines rules steps view d (lines ++ line ∷ []) (with_skipped before) old new
  told_skipped none same = record {
    judged = tells.judged;
    all = tells.all ∙ sym (offered_none (offered_by view d) lines line none);
    by = tells.by;
    asked = subst (λ (v : V). AsksEach steps tells.judged old v) (sym same) tells.asked;
    checked_are = tells.checked_are;
    bad_are = tells.bad_are;
    skipped_are = count_more is_skipped lines line before.skipped
        (ap (λ (o : Option OfferedSignature). is_none o) none) tells.skipped_are;
  }

  judged_all : (sig : OfferedSignature) (b : Bool) → offered_by view d line ≡ Some sig
      → map (λ (one : Judgement). one.0) (tells.judged ++ (sig, b) ∷ []) ≡ offered_lines view d (lines ++ line ∷ [])
  judged_all sig b is =
      map_push (λ (one : Judgement). one.0) tells.judged (sig, b)
      ∙ ap (λ (l : List OfferedSignature). l ++ sig ∷ []) tells.all
      ∙ sym (offered_one (offered_by view d) lines line sig is)

  not_skipped : (sig : OfferedSignature) → offered_by view d line ≡ Some sig
      → before.skipped ≡ skipped_count view d (lines ++ line ∷ [])
  not_skipped sig is =
      count_same is_skipped lines line before.skipped (ap (λ (o : Option OfferedSignature). is_none o) is)
      tells.skipped_are

  -- with one that is accepted
  pub told_checked : (sig : OfferedSignature) → offered_by view d line ≡ Some sig → IsJudgedBy rules (sig, true)
      → Asks steps sig between answer.Yes new
      → TellsLines rules steps view d (lines ++ line ∷ []) (with_checked before sig) old new
  told_checked sig is may asks =
      let one : Judgement = (sig, true) in
      let yes = kept_more (λ (j : Judgement). j.1) tells.judged one refl in
      record {
        judged = tells.judged ++ one ∷ [];
        all = judged_all sig true is;
        by = All-push (IsJudgedBy rules) tells.judged one tells.by may;
        asked = asks_more steps tells.judged one old between new tells.asked asks;
        checked_are =
            ap (λ (l : List OfferedSignature). l ++ sig ∷ []) tells.checked_are
            ∙ sym (ap (λ (l : List Judgement). map (λ (j : Judgement). j.0) l) yes
            ∙ map_push (λ (j : Judgement). j.0) (filter (λ (j : Judgement). j.1) tells.judged) one);
        bad_are = count_same (λ (j : Judgement). not j.1) tells.judged one before.bad refl tells.bad_are;
        skipped_are = not_skipped sig is;
      }

  -- with one that is refused
  pub told_bad : (sig : OfferedSignature) → offered_by view d line ≡ Some sig → IsJudgedBy rules (sig, false)
      → Asks steps sig between answer.No new
      → TellsLines rules steps view d (lines ++ line ∷ []) (with_bad before) old new
  told_bad sig is may asks =
      let one : Judgement = (sig, false) in
      let same = kept_same (λ (j : Judgement). j.1) tells.judged one refl in
      record {
        judged = tells.judged ++ one ∷ [];
        all = judged_all sig false is;
        by = All-push (IsJudgedBy rules) tells.judged one tells.by may;
        asked = asks_more steps tells.judged one old between new tells.asked asks;
        checked_are = tells.checked_are ∙ sym (ap (λ (l : List Judgement). map (λ (j : Judgement). j.0) l) same);
        bad_are = count_more (λ (j : Judgement). not j.1) tells.judged one before.bad refl tells.bad_are;
        skipped_are = not_skipped sig is;
      }

  -- with one that is offered or not
  told_by : (wanted : Option OfferedSignature) (after : Tally) → offered_by view d line ≡ wanted
      → AddsLine rules steps wanted before between after new
      → TellsLines rules steps view d (lines ++ line ∷ []) after old new
  told_by None after is adds =
      subst (λ (t : Tally). TellsLines rules steps view d (lines ++ line ∷ []) t old new) (sym adds.0)
      (told_skipped is adds.1)
  told_by (Some sig) after is (inl (same, may, asks)) =
      subst (λ (t : Tally). TellsLines rules steps view d (lines ++ line ∷ []) t old new) (sym same)
      (told_checked sig is may asks)
  told_by (Some sig) after is (inr (same, may, asks)) =
      subst (λ (t : Tally). TellsLines rules steps view d (lines ++ line ∷ []) t old new) (sym same)
      (told_bad sig is may asks)

-- the lines so far and the next one
pub told_next : {V : Type 0} (rules : Rules) (steps : Steps V) (view : PeriodView) (d : Detached)
    (lines : List DetachedLine) (i : ℕ) (line : DetachedLine) (before after : Tally) (old between new : V)
    → i < length lines → line ≡ get_or lines i line → TellsLines rules steps view d (take i lines) before old between
    → AddsLine rules steps (offered_by view d line) before between after new
    → TellsLines rules steps view d (take (i + 1) lines) after old new
told_next rules steps view d lines i line before after old between new lt at tells adds =
    subst (λ (l : List DetachedLine). TellsLines rules steps view d l after old new) (sym (taken lines i line lt at))
    (told_by rules steps view d (take i lines) line before old between new tells (offered_by view d line) after refl adds)

-- neither number rises by more than one
pub few_more : {V : Type 0} (rules : Rules) (steps : Steps V) (wanted : Option OfferedSignature) (before after : Tally)
    (between new : V) → AddsLine rules steps wanted before between after new
    → (after.skipped ≤ before.skipped + 1) × (after.bad ≤ before.bad + 1)
few_more rules steps None before after between new adds =
    let skipped : after.skipped ≡ before.skipped + 1 = ap (λ (t : Tally). t.skipped) adds.0 in
    let bad : after.bad ≡ before.bad = ap (λ (t : Tally). t.bad) adds.0 in
    (omega (arith, skipped), omega (arith, bad))
few_more rules steps (Some sig) before after between new (inl (same, may, asks)) =
    let skipped : after.skipped ≡ before.skipped = ap (λ (t : Tally). t.skipped) same in
    let bad : after.bad ≡ before.bad = ap (λ (t : Tally). t.bad) same in
    (omega (arith, skipped), omega (arith, bad))
few_more rules steps (Some sig) before after between new (inr (same, may, asks)) =
    let skipped : after.skipped ≡ before.skipped = ap (λ (t : Tally). t.skipped) same in
    let bad : after.bad ≡ before.bad + 1 = ap (λ (t : Tally). t.bad) same in
    (omega (arith, skipped), omega (arith, bad))

-- ---- a fault

-- a count that is told by a fault, and rose by none
pub no_fault : {A E : Type 0} {value : A} {error : E} (before now : ℕ) → before ≤ now
    → (before < now → Ok value ≡ Err error) → now ≡ before
no_fault before now le told =
    ⊎_elim (λ lt. let clash = told lt in absurd cc) (λ ge. omega arith) (cases_lt before now)

-- the verifier fails at a line of the document, where so much was told of those before it
fails_by : {V : Type 0} (rules : Rules) (steps : Steps V) (view : PeriodView) (d : Detached)
    (lines : List DetachedLine) (i : ℕ) (line : DetachedLine) (before : Tally) (old between new : V)
    (wanted : Option OfferedSignature) → lines ≡ d.signatures → i < length lines → line ≡ get_or lines i line
    → TellsLines rules steps view d (take i lines) before old between → offered_by view d line ≡ wanted
    → FailsAt steps wanted between new → FailsAtLine steps view d old new
fails_by rules steps view d lines i line before old between new None same lt at tells is fails = absurd fails
fails_by rules steps view d lines i line before old between new (Some sig) same lt at tells is fails =
    let h = offered_by view d in
    let front = take i lines in
    let back = drop (i + 1) lines in
    let whole : filter_map h lines ≡ filter_map h front ++ sig ∷ filter_map h back =
    ap (λ (l : List DetachedLine). filter_map h l) (parted lines i line lt at)
    ∙ filter_map-append h front (line ∷ back)
    ∙ ap (λ (o : Option OfferedSignature). filter_map h front ++ cons_option o (filter_map h back)) is in
    record {
      judged = tells.judged;
      sig = sig;
      after = filter_map h back;
      between = between;
      all = ap (λ (l : List OfferedSignature). l ++ sig ∷ filter_map h back) tells.all ∙ sym whole
          ∙ ap (λ (l : List DetachedLine). filter_map h l) same;
      asked = tells.asked;
      failed = fails;
    }

-- or there was no memory
pub fails_lines : {V : Type 0} (rules : Rules) (steps : Steps V) (view : PeriodView) (d : Detached)
    (lines : List DetachedLine) (i : ℕ) (line : DetachedLine) (before : Tally) (old between new : V) (refusal : SigRefusal)
    → lines ≡ d.signatures → i < length lines → line ≡ get_or lines i line
    → TellsLines rules steps view d (take i lines) before old between
    → FailsLine steps (offered_by view d line) refusal between new → FailsLines steps view d refusal old new
fails_lines rules steps view d lines i line before old between new the.VerifierFault same lt at tells fails =
    fails_by rules steps view d lines i line before old between new (offered_by view d line) same lt at tells refl fails
fails_lines rules steps view d lines i line before old between new the.Memory same lt at tells fails = tt
fails_lines rules steps view d lines i line before old between new (the.Document fault) same lt at tells fails =
    absurd fails
fails_lines rules steps view d lines i line before old between new (the.WrongPeriod after) same lt at tells fails =
    absurd fails

-- A mirror lacks fewer microdescriptors after a batch of which one was kept.
use Rattle.std.proofs.Common.{◌≡◌, ℕ, ◌+◌, ◌<◌, ◌≤◌, List, [], ◌∷◌, refl, sym, ap, subst, arith}
use Rattle.micro_desc.specs.declared.micro.Micro.{Micro}
use Rattle.mirror_core.specs.{Rows.{rows_by, taking_outcome}, declared.taken.Taken.Taken}
use Rattle.mirror_core.specs.{declared.report.MicroReport.MicroReport, Answers.{MicroTally, TakesMicros}}
use Rattle.mirror_core.specs.{Answers.{counted_report, no_micros_yet, with_micro, with_micros}, States.Mirrored}
use Rattle.mirror_core.specs.declared.taken.Taken.TheVariants as taken
use Rattle.mirror_daemon.{specs.Lacking.{lacking_count, rows_lacking}, proofs.Rows.kept_fewer}

-- what was lacking, less what was kept, is no less than what is lacking
abbrev Bounds : MicroTally → MicroTally → Type 0
Bounds before after = rows_lacking after.rows + after.report.kept ≤ rows_lacking before.rows + before.report.kept

with_one : (tally : MicroTally) (text : List ℕ) → Bounds tally (with_micro tally text)
with_one tally text = by (taking_outcome tally.rows text) refl
  where
    by : (answer : Taken) → taking_outcome tally.rows text ≡ answer
        → rows_lacking (rows_by tally.rows text answer) + (counted_report tally.report answer).kept ≤ rows_lacking tally.rows + tally.report.kept
    by taken.Kept is = omega (arith, kept_fewer tally.rows text is)
    by taken.Had is = omega arith
    by taken.Unwanted is = omega arith

with_all : (tally : MicroTally) (micros : List (Micro × List ℕ)) → Bounds tally (with_micros tally micros)
with_all tally [] = omega arith
with_all tally (one ∷ more) =
    let first : Bounds tally (with_micro tally one.1) = with_one tally one.1 in
    let rest : Bounds (with_micro tally one.1) (with_micros (with_micro tally one.1) more) =
    with_all (with_micro tally one.1) more in
    omega (arith, first, rest)

-- fewer are lacking once one was kept
pub kept_lacks : (before : Mirrored) (bytes : List ℕ) (report : MicroReport) (after : Mirrored)
    → TakesMicros before bytes report after → 0 < report.kept → lacking_count after < lacking_count before
kept_lacks before bytes report after takes some =
    let tally : MicroTally = with_micros (no_micros_yet before.rows) takes.micros in
    let all : rows_lacking tally.rows + tally.report.kept ≤ rows_lacking before.rows + 0 =
    with_all (no_micros_yet before.rows) takes.micros in
    let kept : report.kept ≡ tally.report.kept = ap (λ (r : MicroReport). r.kept) takes.report_is in
    let fewer : rows_lacking tally.rows < rows_lacking before.rows = omega (arith, all, kept, some) in
    subst (λ (m : Mirrored). lacking_count m < lacking_count before) (sym takes.after_is) fewer

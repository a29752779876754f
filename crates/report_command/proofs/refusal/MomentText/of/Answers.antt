use Rattle.std.proofs.Common.{List, ℕ, ◌++◌, length, sym, ap, ◌∙◌}
use Rattle.dir_bytes.{specs.FieldTexts.moment_text, proofs.Days.length-moment_text}
use Rattle.report_command.proofs.refusal.MomentText.of.Goals as goal

pub copy_from_slice-requires : goal.copy_from_slice-requires
copy_from_slice-requires c =
    let text = moment_text c.args.moment in
    let written =
    c.deref.ensures.value ∙ c.in_ok-push_time.ensures.ok
    ∙ ap (λ (front : List ℕ). front ++ text) c.in_ok-written.ensures.items in
    sym (ap (λ (bytes : List ℕ). length bytes) written ∙ length-moment_text c.args.moment)

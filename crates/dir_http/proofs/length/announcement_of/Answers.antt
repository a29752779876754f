use Rattle.std.{proofs.Common.{All, Option, length, refl, sym, subst, arith}, specs.Option.option_to_list}
use Rattle.httparse.specs.{declared.spans.Span.Span, Spans.IsWithin}
use Rattle.dir_http.{specs.Heads.length_values, proofs.length.announcement_of.Goals.then-is_length_name+else-is_some}
use Rattle.dir_http.proofs.{length.announcement_of.Goals.else-is_length_name, Lengths.second_is_unclear}
use Rattle.dir_http.proofs.Lengths.{first_is_kept, other_adds_none, all_of_one}
use Rattle.dir_http.proofs.length.announcement_of.Goals as goal

pub fields-init : goal.fields-init
unfolding length_values
fields-init c = record { within = λ k d less. absurd (omega (arith, less)); values = refl }

pub returns-then-is_some : goal.returns-then-is_some
returns-then-is_some c =
    second_is_unclear c.args.bytes.now c.args.fields.now c.fields.field-index _ c.fields.value c.of.result.now
    c.fields-test.true c.of.ensures (c.if-is_length_name.ensures) (c.if-is_some.ensures) c.fields.invariant.values

pub fields-preserved : goal.fields-preserved
fields-preserved c =
    elim c.if-is_length_name.branch [
      | then-is_length_name+else-is_some w ↦ record {
        within = subst (λ (v : Option Span). All (IsWithin (length c.args.bytes.now)) (option_to_list v))
            (sym w.value-is)
            (all_of_one (IsWithin (length c.args.bytes.now)) _
            (c.requires.within c.fields.field-index _ c.fields-test.true).1);
        values = first_is_kept c.args.bytes.now c.args.fields.now c.fields.field-index _ c.fields.value
            c.if-is_length_name.value c.of.result.now
            c.fields-test.true c.of.ensures (w.if-is_length_name.ensures)
            (w.if-is_some.ensures) w.value-is c.fields.invariant.values;
      }
      | else-is_length_name w ↦ record {
        within = subst (λ (v : Option Span). All (IsWithin (length c.args.bytes.now)) (option_to_list v))
            (sym w.value-is) c.fields.invariant.within;
        values = other_adds_none c.args.bytes.now c.args.fields.now c.fields.field-index _ c.fields.value
            c.if-is_length_name.value c.of.result.now
            c.fields-test.true c.of.ensures (w.if-is_length_name.ensures) w.value-is c.fields.invariant.values;
      }
    ]

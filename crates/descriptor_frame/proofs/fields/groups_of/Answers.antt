use Rattle.std.proofs.Common.{rules, arith, ◌≡◌, ◌∙◌, ◌*◌, ◌+◌, ◌-◌, ℕ, List, ◌++◌, take, ap, sym, length}
use Rattle.descriptor_frame.{specs.Fields.groups_of, proofs.Groups.{groups_behind_bytes, one_more_group_read, no_more}}
use Rattle.descriptor_frame.proofs.Groups.{at_end, two_are_all, two_set, whole}
use Rattle.descriptor_frame.proofs.fields.groups_of.Goals as goal

pub returns-in_err-group : goal.returns-in_err-group
returns-in_err-group c =
    let place = c.in_err-group.field-0.0 in
    let none = no_more 10 c.groups.i c.args.item place (take (2 * c.groups.i) c.groups.bytes) c.groups.arguments
    c.groups-test.true (sym c.next_group.ensures.group ∙ c.in_err-group.was) in
    search (rules, sym none ∙ c.groups.invariant.same)

pub groups-preserved : goal.groups-preserved
groups-preserved c =
    let group = c.in_ok-group.group in
    let i = c.groups.i in
    let bytes = c.groups.bytes in
    let front = take (2 * i) bytes in
    let two : length group ≡ 2 = search rules in
    let left = groups_of (10 - (i + 1)) c.args.item c.next_group.new.arguments in
    record {
      same = ap (λ (l : List ℕ). groups_behind_bytes l left) (two_set bytes i _ _ (omega (arith, c.groups-test.true, c.groups.invariant.twenty)))
          ∙ ap (λ (l : List ℕ). groups_behind_bytes (front ++ l) left) (two_are_all group two)
          ∙ ap (λ a. groups_behind_bytes (front ++ group) (groups_of (10 - (i + 1)) c.args.item a)) c.next_group.ensures.others
          ∙ sym (one_more_group_read 10 i c.args.item front group c.groups.arguments c.groups-test.true
          (sym c.next_group.ensures.group ∙ c.in_ok-group.was))
          ∙ c.groups.invariant.same;
      twenty = search (rules, c.groups.invariant.twenty);
    }

pub returns : goal.returns
returns c =
    sym (ap (λ (l : List ℕ). groups_behind_bytes l (groups_of (10 - c.groups.i) c.args.item c.groups.arguments))
    (whole c.groups.bytes (2 * c.groups.i) (omega (arith, c.groups.invariant.twenty, c.groups-test.false)))
    ∙ at_end 10 c.groups.i c.args.item c.groups.bytes c.groups.arguments c.groups-test.false) ∙ c.groups.invariant.same

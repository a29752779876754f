use Rattle.std.proofs.Common.{◌≡◌, ◌∙◌, ◌++◌, List, true, length, take, ap, refl, le_refl, rules, arith}
use Rattle.std.proofs.lemmas.List.{take_all, take_at}
use Rattle.frame_values.specs.declared.found.Span.{Span}
use Rattle.vote_entries.specs.{Kept.{entry_of, is_after}, Rows.kept_rows, Saying.{addresses_in, micros_in}}
use Rattle.vote_entries.proofs.RowLists.{and_one_within, one_more_row, rows_kept, rows_stay, still_within}
use Rattle.vote_entries.proofs.RowOrder.{and_one_ascends}
use Rattle.vote_entries.proofs.rows.Rows.add.Goals as goal

pub invariant_of-self : goal.invariant_of-self
invariant_of-self c = record {
  within = still_within (length c.self.inside.addresses.items) (length c.self.inside.micros.items) _ _ c.self.inside.rows.items
      c.push_addresses.ensures.grown (omega arith) c.self.invariant.within;
  ascend = c.self.invariant.ascend;
}

pub invariant_of-self-in_err-push_micros : goal.invariant_of-self-in_err-push_micros
invariant_of-self-in_err-push_micros c = record {
  within = still_within (length c.self.inside.addresses.items) (length c.self.inside.micros.items) _ _ c.self.inside.rows.items
      c.push_addresses.ensures.grown c.push_micros.ensures.grown c.self.invariant.within;
  ascend = c.self.invariant.ascend;
}

pub invariant_of-self-in_err-push : goal.invariant_of-self-in_err-push
invariant_of-self-in_err-push c =
    rw c.in_err-push.ensures.items (record {
      within = still_within (length c.self.inside.addresses.items) (length c.self.inside.micros.items) _ _ c.self.inside.rows.items
          c.push_addresses.ensures.grown c.push_micros.ensures.grown c.self.invariant.within;
      ascend = c.self.invariant.ascend;
    })

pub invariant_of-self-2 : goal.invariant_of-self-2
invariant_of-self-2 c =
    let within =
    still_within (length c.self.inside.addresses.items) (length c.self.inside.micros.items) _ _ c.self.inside.rows.items
    c.push_addresses.ensures.grown c.push_micros.ensures.grown c.self.invariant.within in
    let after : is_after (kept_rows c.self.inside.addresses.items c.self.inside.micros.items c.self.inside.rows.items) (entry_of c.args.taken.now).relay.identity ≡ true =
    rw (← c.self.view_is) at c.requires in
    rw (c.in_ok-push.ensures.items, c.row_of.ensures) (record {
      within = and_one_within _ _ c.self.inside.rows.items _ within
          (record { ordered = search rules; ends = search rules }) (record { ordered = search rules; ends = search rules });
      ascend = and_one_ascends c.self.inside.addresses.items c.self.inside.micros.items c.self.inside.rows.items _ c.self.invariant.ascend after;
    })

pub returns-in_err-push_addresses-clause-err : goal.returns-in_err-push_addresses-clause-err
returns-in_err-push_addresses-clause-err c =
    let addresses = c.self.inside.addresses.items in
    let micros = c.self.inside.micros.items in
    let rows = c.self.inside.rows.items in
    let a = c.push_addresses.new.out.items in
    let front : take (length addresses) a ≡ addresses = search rules in
    let same : kept_rows a micros rows ≡ kept_rows addresses micros rows =
    rows_kept addresses a micros micros rows c.self.invariant.within front (take_all (length micros) micros (le_refl (length micros))) in
    search (rules, same)

pub returns-in_err-push_micros-clause-err : goal.returns-in_err-push_micros-clause-err
returns-in_err-push_micros-clause-err c =
    let addresses = c.self.inside.addresses.items in
    let micros = c.self.inside.micros.items in
    let rows = c.self.inside.rows.items in
    let a = c.push_addresses.new.out.items in
    let m = c.push_micros.new.out.items in
    let written : a ≡ addresses ++ addresses_in c.args.taken.now = search rules in
    let front : take (length addresses) a ≡ addresses =
    ap (λ (l : List Span). take (length addresses) l) written ∙ take_at addresses (addresses_in c.args.taken.now) (length addresses) refl in
    let kept : take (length micros) m ≡ micros = search rules in
    let same : kept_rows a m rows ≡ kept_rows addresses micros rows = rows_kept addresses a micros m rows c.self.invariant.within front kept in
    search (rules, same)

pub returns-in_err-push-clause-err : goal.returns-in_err-push-clause-err
returns-in_err-push-clause-err c =
    let addresses = c.self.inside.addresses.items in
    let micros = c.self.inside.micros.items in
    let rows = c.self.inside.rows.items in
    let a = c.push_addresses.new.out.items in
    let m = c.push_micros.new.out.items in
    let wrote_a : a ≡ addresses ++ addresses_in c.args.taken.now = search rules in
    let wrote_m : m ≡ micros ++ micros_in c.args.taken.now = search rules in
    let same : kept_rows a m rows ≡ kept_rows addresses micros rows =
    (λ i. kept_rows (wrote_a i) (wrote_m i) rows)
    ∙ rows_stay addresses (addresses_in c.args.taken.now) micros (micros_in c.args.taken.now) rows c.self.invariant.within in
    search (rules, same)

pub returns-clause-ok : goal.returns-clause-ok
returns-clause-ok c =
    rw (← c.self.view_is, c.in_ok-push.ensures.items, c.in_ok-push_addresses.ensures.ok, c.in_ok-push_micros.ensures.ok, c.row_of.ensures) (
    one_more_row c.self.inside.addresses.items (addresses_in c.args.taken.now) c.self.inside.micros.items (micros_in c.args.taken.now)
    c.self.inside.rows.items c.args.taken.now _ _ c.self.invariant.within refl refl (search rules) (search rules) (search rules) (search rules)
    )

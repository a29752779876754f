use Rattle.std.proofs.{Common.{◌≡◌, ◌<◌, Some, length, map, ap, sym, ◌∙◌}, lemmas.Option.slice_get-get_or}
use Rattle.std.{proofs.lemmas.Option.get_or_from_slice_get, specs.Prelude.slice_get}
use Rattle.vote_entries.{proofs.RowLists.{entry_at, row_inside}, specs.Entries.entry_in}
use Rattle.vote_entries.specs.declared.row.EntryRow.{EntryRow}
use Rattle.vote_entries.proofs.rows.Rows.entry.Goals as goal

pub returns : goal.returns
returns c =
    let rows = c.self.inside.rows.items in
    let row = c.index-row.result.now in
    let inside : c.args.i < length rows = row_inside c.self.inside.addresses.items c.self.inside.micros.items rows c.args.i (rw (← c.self.view_is) at c.requires.within) in
    let found = slice_get-get_or rows c.args.i row inside ∙ ap (λ (r : EntryRow). Some r) (sym c.index-row.ensures) in
    let entry : slice_get (map (entry_in c.args.bytes.now) c.args.self.now) c.args.i ≡ Some c.new.result =
    rw (← c.self.view_is, c.new.ensures, c.run_of-addresses.ensures, c.run_of-micros.ensures, c.deref.ensures.value, c.deref-2.ensures.value)
    (entry_at c.args.bytes.now c.self.inside.addresses.items c.self.inside.micros.items rows c.args.i row found) in
    sym (get_or_from_slice_get (map (entry_in c.args.bytes.now) c.args.self.now) c.args.i c.new.result c.new.result entry)

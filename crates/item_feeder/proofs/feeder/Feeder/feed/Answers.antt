use Rattle.std.proofs.Common.{◌≡◌, ◌+◌, ◌-◌, ◌≤◌, ◌++◌, List, ℕ, None, length, take, sym, ap, ◌∙◌, arith}
use Rattle.std.proofs.lemmas.Bool.{false≢true}
use Rattle.dirdoc_grammar.specs.Feeding.{Fed}
use Rattle.item_feeder.proofs.Feeders.{appended, beside_none, fed_rest, within_length}
use Rattle.item_feeder.proofs.feeder.Feeder.feed.Goals as goal

pub invariant_of-self-2 : goal.invariant_of-self-2
invariant_of-self-2 c =
    let i = c.self.inside in
    let inv = c.self.invariant in
    let split = c.split_at_room-beside in
    let full : length i.bytes.items + (i.cursor.limit - c.len.result) ≡ i.cursor.limit =
    omega (arith, c.len.ensures, within_length i.cursor.limit i.bytes.items i.beside inv.within) in
    let h =
    appended i.bytes.items split.result.0.now c.args.piece.now c.extend_from_slice.new.self.items split.result.1
    i.cursor (i.cursor.limit - c.len.result) inv.reads full c.in_ok-extend_from_slice.ensures.items split.ensures.fits
    split.ensures.beside in
    record {
      reads = h.0;
      within = h.1;
      small = inv.small;
      waiting = λ e. absurd (false≢true e);
      alone = λ e. absurd (false≢true e);
    }

pub returns-clause-ok : goal.returns-clause-ok
returns-clause-ok c =
    let i = c.self.inside in
    let inv = c.self.invariant in
    let at_ = inv.reads in
    let split = c.split_at_room-beside in
    let le : i.cursor.place ≤ length i.bytes.items = omega (arith, at_.taken, at_.order, at_.later, at_.within) in
    let full : length i.bytes.items + (i.cursor.limit - c.len.result) ≡ i.cursor.limit =
    omega (arith, c.len.ensures, within_length i.cursor.limit i.bytes.items i.beside inv.within) in
    let none : i.beside ≡ None = beside_none i.beside (sym c.is_some.ensures ∙ c.if-is_some.false) in
    c.remember.ensures
    ∙ ap (λ (l : List ℕ). record {
      limit = i.base + i.cursor.limit;
      place = i.base + i.cursor.place;
      rest = l;
      finished = i.finished;
    })
    (fed_rest i.base i.cursor.limit i.cursor.place
    (i.cursor.limit - c.len.result) i.bytes.items split.result.0.now c.args.piece.now
    c.extend_from_slice.new.self.items i.beside split.result.1 none le full c.in_ok-extend_from_slice.ensures.items
    split.ensures.fits split.ensures.beside)
    ∙ ap (λ (f : Fed). record {
      limit = f.limit;
      place = f.place;
      rest = take (f.limit + 1 - f.place)
          (f.rest ++ c.args.piece.now);
      finished = f.finished;
    }) (c.self.view_is ∙ c.compact.ensures)

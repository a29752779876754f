use Rattle.std.proofs.Common.{◌≡◌, drop}
use Rattle.serve_answers.specs.{Documents.micro_with, Places.at_places}
use Rattle.serve_answers.proofs.micros.push_micro.Given as goal

-- the microdescriptor is looked for at the places from here on
abbrev pub invariant-micros : goal.invariant-micros
invariant-micros g l = record {
  same : l.out.items ≡ l.fn.out.items;
  ahead :
      micro_with (at_places l.pool.descriptors (drop l.place-index l.places)) l.asked
      ≡ micro_with (at_places l.pool.descriptors l.places) l.asked;
}

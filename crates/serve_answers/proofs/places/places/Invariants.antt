use Rattle.std.proofs.Common.{◌≡◌, ◌<◌, All, filter, length, take}
use Rattle.serve_answers.specs.Places.{at_places, is_asked}
use Rattle.serve_answers.proofs.places.places.Given as goal

-- the places of the entries so far
abbrev pub invariant-entries : goal.invariant-entries
invariant-entries g l = record {
  within : All (λ place. place < length l.pool.descriptors) l.places.items;
  value : at_places l.pool.descriptors l.places.items ≡ filter (is_asked l.digests) (take l.i l.pool.descriptors);
}

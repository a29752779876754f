use Rattle.std.{proofs.Common.{◌≡◌, ◌<◌, take, length}, specs.Prelude.{IfSome, IsTrue, ◌↔◌, is_none, option_and_then}}
use Rattle.std.specs.Prelude.{slice_get}
use Rattle.field_votes.specs.Leading as leading
use Rattle.field_votes.proofs.choosing.leader.Given as goal

abbrev pub invariant-values : goal.invariant-values
invariant-values g l = record {
  value : option_and_then (λ place. slice_get l.values place) l.best ≡ leading.leader g.T.Ballot.order l.values (take l.i l.values);
  within : IfSome l.best (λ place. place < length l.values);
  none : IsTrue (is_none l.best) ↔ (l.i ≡ 0);
}

use Rattle.std.{proofs.{Common.{sym, subst}, lemmas.List.Elements.{All-push, All-same}}, specs.Prelude.All}
use Rattle.period_lock.{specs.Turns.IsOf, proofs.Meeting.all_but_last}
use Rattle.low_checks.proofs.turns.close_after_a_refusal.Goals as goal

pub close-requires : goal.close-requires
close-requires c = record {
  lock = (all_but_last (IsOf c.args.shared) c.args.passes.items c.pop.new.self.items c.in-Some.missing
      c.in-Some.ensures.items c.requires).0;
}

pub close-requires-in-Ok : goal.close-requires-in-Ok
close-requires-in-Ok c =
    let here = all_but_last (IsOf c.args.shared) c.args.passes.items c.pop.new.self.items c.in-Some.missing
    c.in-Some.ensures.items c.requires in
    let back = c.in-Err.ensures.back in
    let all = All-push (IsOf c.args.shared) c.in-Err.back.items c.in-Some.missing
    (All-same (IsOf c.args.shared) _ _ back.1 here.0) here.1 in
    record {
      lock = subst (λ l. All (IsOf l) c.push.new.self.items) (sym back.0)
          (All-same (IsOf c.args.shared) _ _ c.in-Ok.ensures.items all);
    }

use Rattle.std.proofs.{Common.{◌≡◌, ◌∙◌, true, false, refl, rules, arith}, lemmas.Result.err_from_is_err_and}
use Rattle.blank_lines.specs.Ends.{ends_at}
use Rattle.key_port.specs.Answers.{rules as verifier_rules}
use Rattle.station_commands.proofs.{Faults.no_fault, Standing.{none_kept, one_kept, or_is}, Stopping.fills}
use Rattle.station_commands.proofs.Stopping.{makes_pool, stops_there}
use Rattle.station_commands.proofs.descriptors.pool_of.Goals as goal

pub descriptors-init : goal.descriptors-init
descriptors-init g c =
    let checks = verifier_rules g.V.Verifier.may_accept g.V.Verifier.may_refuse in
    record {
      within = c.requires.within;
      count = search rules;
      kept = none_kept checks c.args.newest c.args.start c.args.bytes.now c.in_ok-pool.pool c.in_ok-pool.ensures;
      faults = refl;
    }

pub returns-in_err-entry-clause-gives : goal.returns-in_err-entry-clause-gives
returns-in_err-entry-clause-gives g c =
    let checks = verifier_rules g.V.Verifier.may_accept g.V.Verifier.may_refuse in
    let more : ends_at c.descriptors.place c.args.bytes.now ≡ false = search rules in
    let p = err_from_is_err_and c.from_residual-in_err-entry.result c.from_residual-in_err-entry.ensures.1 in
    rw (p.1, p.2)
    (stops_there checks c.args.newest c.args.start c.args.bytes.now c.descriptors.place c.descriptors.number c.descriptors.pool
    c.descriptors.full c.descriptors.invariant.kept more c.in_err-entry.field-0.0 c.in_err-entry.ensures.gives)

pub descriptors-preserved-then-full : goal.descriptors-preserved-then-full
descriptors-preserved-then-full g c =
    let checks = verifier_rules g.V.Verifier.may_accept g.V.Verifier.may_refuse in
    let more : ends_at c.descriptors.place c.args.bytes.now ≡ false = search rules in
    let there = c.in_ok-entry.ensures.gives in
    record {
      within = there.within;
      count = omega (arith, there.further, c.descriptors.invariant.count);
      kept = one_kept checks c.args.newest c.args.start c.args.bytes.now c.descriptors.place c.descriptors.number c.in_ok-entry.after
          c.descriptors.pool c.keep-found_full.new.pool c.descriptors.full c.keep-found_full.result
          c.descriptors.full c.in_ok-entry.entry c.descriptors.invariant.kept more there.stands there.verified
          c.keep-found_full.ensures.pool c.keep-found_full.ensures.full (c.if-full.true ∙ or_is c.keep-found_full.result c.if-full.true);
      faults = no_fault _ _ c.in_ok-entry.ensures.faults c.in_ok-entry.ensures.told ∙ c.descriptors.invariant.faults;
    }

pub descriptors-preserved : goal.descriptors-preserved
descriptors-preserved g c =
    let checks = verifier_rules g.V.Verifier.may_accept g.V.Verifier.may_refuse in
    let more : ends_at c.descriptors.place c.args.bytes.now ≡ false = search rules in
    let there = c.in_ok-entry.ensures.gives in
    record {
      within = there.within;
      count = omega (arith, there.further, c.descriptors.invariant.count);
      kept = one_kept checks c.args.newest c.args.start c.args.bytes.now c.descriptors.place c.descriptors.number c.in_ok-entry.after
          c.descriptors.pool c.keep-found_full.new.pool c.descriptors.full c.keep-found_full.result
          c.keep-found_full.result c.in_ok-entry.entry c.descriptors.invariant.kept more there.stands there.verified
          c.keep-found_full.ensures.pool c.keep-found_full.ensures.full (or_is c.keep-found_full.result c.if-full.false);
      faults = no_fault _ _ c.in_ok-entry.ensures.faults c.in_ok-entry.ensures.told ∙ c.descriptors.invariant.faults;
    }

pub returns-then-full-2-clause-gives : goal.returns-then-full-2-clause-gives
returns-then-full-2-clause-gives g c =
    let checks = verifier_rules g.V.Verifier.may_accept g.V.Verifier.may_refuse in
    let ended : ends_at c.descriptors.place c.args.bytes.now ≡ true = search rules in
    fills checks c.args.newest c.args.start c.args.bytes.now c.descriptors.place c.descriptors.number c.descriptors.pool
    c.descriptors.full c.descriptors.invariant.kept ended c.if-full-2.true

pub returns-clause-gives : goal.returns-clause-gives
returns-clause-gives g c =
    let checks = verifier_rules g.V.Verifier.may_accept g.V.Verifier.may_refuse in
    let ended : ends_at c.descriptors.place c.args.bytes.now ≡ true = search rules in
    makes_pool checks c.args.newest c.args.start c.args.bytes.now c.descriptors.place c.descriptors.number c.descriptors.pool
    c.descriptors.full c.descriptors.invariant.kept ended c.if-full-2.false

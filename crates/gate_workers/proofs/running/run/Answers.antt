use Rattle.std.proofs.Common.{rules, ◌≡◌, length, subst}
use Rattle.gate_workers.{specs.Workers.AnyFault, proofs.Endings.{heard, worked}}
use Rattle.gate_workers.proofs.running.run.Goals as goal

pub returns-then-any_fault-clause-ran : goal.returns-then-any_fault-clause-ran
returns-then-any_fault-clause-ran g c =
    let long : length c.listen_all.new.workers ≡ length c.args.workers.now = search rules in
    heard g.G.Gate.faults g.G.Gate.closed c.args.workers.now c.listen_all.new.workers long
    (subst (λ b. AnyFault b c.listen_all.new.workers) c.if-any_fault.true c.any_fault.ensures)
    c.listen_all.ensures.ends

pub returns-then-any_fault-2-clause-ran : goal.returns-then-any_fault-2-clause-ran
returns-then-any_fault-2-clause-ran g c =
    let long : length c.listen_all.new.workers ≡ length c.args.workers.now = search rules in
    let longer : length c.work_all.new.workers ≡ length c.listen_all.new.workers = search rules in
    worked g.G.Gate.faults g.G.Gate.closed c.args.workers.now c.listen_all.new.workers long c.work_all.new.workers
    longer c.work_all.ensures.ends
    (subst (λ b. AnyFault b c.work_all.new.workers) c.if-any_fault-2.true c.any_fault-2.ensures)
    c.listen_all.ensures.faults

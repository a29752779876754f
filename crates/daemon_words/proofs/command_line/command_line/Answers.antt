use Rattle.daemon_words.proofs.command_line.command_line.Goals as goal

pub returns : goal.returns
returns c =
    let one = c.in_ok-command.ensures _ _ c.program.ensures c.in_ok-compute.ensures in
    let two = c.in_ok-command-2.ensures _ _ one c.in_ok-of_kind.ensures in
    let three = c.in_ok-command-3.ensures _ _ two c.in_ok-of_kind-2.ensures in
    let four = c.in_ok-command-4.ensures _ _ three c.in_ok-make_vote.ensures in
    let five = c.in_ok-command-5.ensures _ _ four c.in_ok-rehearse.ensures in
    let six = c.in_ok-command-6.ensures _ _ five c.in_ok-report.ensures in
    c.with_command-7.ensures _ _ six c.in_ok-serve.ensures

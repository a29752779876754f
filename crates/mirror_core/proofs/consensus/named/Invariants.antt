use Rattle.std.{proofs.Common.{◌≡◌, ◌++◌, drop}, specs.List.filter_map}
use Rattle.mirror_core.specs.States.{micro_named, named}
use Rattle.mirror_core.proofs.consensus.named.Given as goal

abbrev pub invariant-routers : goal.invariant-routers
invariant-routers l =
    l.digests.items ++ filter_map micro_named (drop l.router-index l.routers) ≡ named l.fn.consensus

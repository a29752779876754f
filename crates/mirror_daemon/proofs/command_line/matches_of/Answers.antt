use Rattle.std.{proofs.Common.{◌≡◌, sym, ap, ◌∙◌}, specs.Prelude.{map, string_bytes}}
use Rattle.clap.specs.Words.{App, app_of, fault_of, is_simple, is_simple_and_free, matches_of}
use Rattle.daemon_words.proofs.Named.{refused}
use Rattle.mirror_daemon.{specs.CommandLine.{command_line, faults, options}, proofs.Apps.{simple, simple_and_free}}
use Rattle.mirror_daemon.proofs.command_line.matches_of.Goals as goal

pub returns-in-Ok : goal.returns-in-Ok
unfolding faults options
returns-in-Ok c =
    let is : app_of c.in_ok-command_line.command_line ≡ command_line = c.in_ok-command_line.ensures in
    let none = c.in-Ok.ensures.kinds (ap is_simple_and_free is ∙ simple_and_free) in
    let found = c.in-Ok.ensures.matches (ap is_simple is ∙ simple) in (
      ap (λ (a : App). fault_of a (map (λ word. string_bytes word) c.args.words.now)) (sym is) ∙ none,
      found.0 ∙ ap (λ (a : App). matches_of a (map (λ word. string_bytes word) c.args.words.now)) is,
    )

pub returns : goal.returns
unfolding faults options
returns c =
    let is : app_of c.in_ok-command_line.command_line ≡ command_line = c.in_ok-command_line.ensures in
    let some = c.in-Err.ensures.kinds (ap is_simple_and_free is ∙ simple_and_free) in
    λ none. refused (fault_of (app_of c.in_ok-command_line.command_line) (map (λ word. string_bytes word) c.args.words.now)) c.in-Err.error some (λ memory. c.in_default.not-OutOfMemory (c.kind.ensures ∙ memory))
    (ap (λ (a : App). fault_of a (map (λ word. string_bytes word) c.args.words.now)) is ∙ none)

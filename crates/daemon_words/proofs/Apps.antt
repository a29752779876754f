-- The command line is one that clap reads exactly.
use Rattle.std.{proofs.Common.{◌≡◌, ◌||◌, false, true, refl, ap, ap₂, ◌∙◌, Result, Ok, Err}, specs.Prelude.IfOk}
use Rattle.clap.specs.Words.{AddsArg, AddsSubcommand, App, Rule, app_of, is_simple, is_simple_and_free, rule_of}
use Rattle.clap.specs.{Words.{with_rule, with_subcommand}, declared.builder.{arg.Arg.Arg, command.Command.Command}}
use Rattle.clap.proofs.OnLiterals.{clap_on_literals}
use Rattle.daemon_words.specs.{CommandLine.command_line, Lending.{AddsCommand, AddsRule, Reads}}

pub simple : is_simple command_line ≡ true
unfolding clap_on_literals
simple = refl

pub simple_and_free : is_simple_and_free command_line ≡ true
unfolding clap_on_literals
simple_and_free = refl

-- what clap reads by a command is as it was said
pub app_read : (command : Command) (app : App) → Reads command app → app_of command ≡ app
unfolding Reads
app_read command app reads = reads.0

module _ {E : Type 0} where
  -- a call that gives a command this argument adds the argument's rule
  pub adds_rule : (old : Command) (arg : Arg) (rule : Rule) (result : Result Command E) → rule_of arg ≡ rule → arg.global ≡ false
      → IfOk result (AddsArg old arg) → AddsRule rule old result
  unfolding Reads
  adds_rule old arg rule (Ok new) is local adds app reads =
      (adds.shape local ∙ ap₂ with_rule reads.0 is, adds.globals ∙ ap₂ ◌||◌ reads.1 local)
  adds_rule old arg rule (Err e) is local adds app reads = tt

  -- a call that gives a command this one below it adds that one's words
  pub adds_command : (old sub : Command) (result : Result Command E) → IfOk result (AddsSubcommand old sub) → AddsCommand old sub result
  unfolding Reads
  adds_command old sub (Ok new) adds app below reads sub_reads = (
    adds.shape sub_reads.1 ∙ ap₂ with_subcommand reads.0 (ap (λ (a : App). a.top) sub_reads.0),
    adds.globals ∙ ap₂ ◌||◌ reads.1 sub_reads.1,
  )
  adds_command old sub (Err e) adds app below reads sub_reads = tt

use Rattle.std.proofs.Common.{◌≡◌, ap, ◌∙◌, Some}
use Rattle.clap.specs.{Words.{Rule, rule_of}, declared.builder.{arg.Arg.Arg, action.ArgAction.TheVariants.SetTrue}}
use Rattle.daemon_words.{specs.CommandLine.flag, proofs.Apps.adds_rule}
use Rattle.daemon_words.proofs.command_line.with_flag.Goals as goal

pub returns : goal.returns
returns c =
    let is : c.action.result ≡ record c.new.result { long = Some c.args.name; action = Some SetTrue } =
    c.action.ensures ∙ ap (λ (a : Arg). record a { action = Some SetTrue }) c.long.ensures in
    let reads : rule_of c.action.result ≡ flag c.args.name.now =
    ap rule_of is ∙ ap (λ (r : Rule). record r { long = Some c.args.name.now; action = Some SetTrue }) c.new.ensures.rule in
    adds_rule c.args.old c.action.result (flag c.args.name.now) c.arg.result reads
    (ap (λ (a : Arg). a.global) is ∙ c.new.ensures.optional.1) c.arg.ensures

use Rattle.std.proofs.Common.{◌≡◌, ap, ◌∙◌, Some}
use Rattle.clap.specs.{Words.{Rule, rule_of}, declared.builder.{arg.Arg.Arg, action.ArgAction.TheVariants.Set}}
use Rattle.daemon_words.{specs.CommandLine.free_option, proofs.Apps.adds_rule}
use Rattle.daemon_words.proofs.command_line.with_free.Goals as goal

pub returns : goal.returns
returns c =
    let is : c.action.result ≡ record c.new.result { long = Some c.args.name; action = Some Set } =
    c.action.ensures ∙ ap (λ (a : Arg). record a { action = Some Set }) c.long.ensures in
    let reads : rule_of c.action.result ≡ free_option c.args.name.now =
    ap rule_of is ∙ ap (λ (r : Rule). record r { long = Some c.args.name.now; action = Some Set }) c.new.ensures.rule in
    adds_rule c.args.old c.action.result (free_option c.args.name.now) c.arg.result reads
    (ap (λ (a : Arg). a.global) is ∙ c.new.ensures.optional.1) c.arg.ensures

use Rattle.std.{proofs.{Common.{Option, sym, ◌∙◌, subst}, lemmas.Result.IfOk-weaker}, specs.Prelude.IfSome}
use Rattle.clap.specs.{Words.{found_of, rows_of}, declared.parser.matches.ArgMatches.ArgMatches}
use Rattle.clap.specs.declared.parser.matches.ArgMatches.TheViews.{out-ArgMatches}
use Rattle.daemon_words.specs.{CommandLine.{faults, command_in}, Lending.Matches, Words.KeepsBounds}
use Rattle.daemon_words.{specs.declared.command.Command.Command, proofs.{Bounds.named_keeps, Named.named_is}}
use Rattle.daemon_words.proofs.Named.{named_read, none_is, none_named, nothing_read}
use Rattle.daemon_words.proofs.command.command_of.Goals as goal

pub returns-in_default-clause-command : goal.returns-in_default-clause-command
returns-in_default-clause-command c =
    let told = subst (λ (m : Option ArgMatches). Matches c.args.words.now m) c.in_default.is c.in_ok-matches.ensures in
    sym (nothing_read (faults c.args.words.now) (command_in c.args.words.now) told)

pub returns-in-Some-subcommand-clause-command : goal.returns-in-Some-subcommand-clause-command
returns-in-Some-subcommand-clause-command c =
    let words = c.args.words.now in
    let told = subst (λ (m : Option ArgMatches). Matches words m) c.in-Some.is c.in_ok-matches.ensures in
    let name = c.in-Some-subcommand.name.now in
    let rows = rows_of (found_of c.in-Some-subcommand.options.now) in
    let named = sym told.1 ∙ named_is (out-ArgMatches c.in-Some.matches).subcommand name rows c.in-Some-subcommand.ensures.name c.in-Some-subcommand.ensures.rows in
    IfOk-weaker c.command_named.result _ _ (λ command h. h ∙ sym (named_read (faults words) (command_in words) name rows told.0 named)) c.command_named.ensures

pub returns-clause-command : goal.returns-clause-command
returns-clause-command c =
    let words = c.args.words.now in
    let told = subst (λ (m : Option ArgMatches). Matches words m) c.in-Some.is c.in_ok-matches.ensures in
    sym (none_named (faults words) (command_in words) told.0 (sym told.1 ∙ none_is (out-ArgMatches c.in-Some.matches).subcommand c.in-None.ensures.name))

pub returns-in-Some-subcommand-clause-bounds : goal.returns-in-Some-subcommand-clause-bounds
returns-in-Some-subcommand-clause-bounds c =
    let name = c.in-Some-subcommand.name.now in
    let rows = rows_of (found_of c.in-Some-subcommand.options.now) in
    IfOk-weaker c.command_named.result _ _
    (λ command h. subst (λ (k : Option Command). IfSome k KeepsBounds) (sym h) (named_keeps name rows)) c.command_named.ensures

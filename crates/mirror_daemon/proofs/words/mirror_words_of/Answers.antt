use Rattle.std.proofs.{Common.{Option, sym, ◌∙◌, subst}, lemmas.Result.IfOk-weaker}
use Rattle.clap.specs.{Words.{found_of, rows_of}, declared.parser.matches.ArgMatches.ArgMatches}
use Rattle.mirror_daemon.{specs.{CommandLine.{faults, options}, Lending.Matches}, proofs.Options.nothing_read}
use Rattle.mirror_daemon.proofs.Options.{values_read}
use Rattle.mirror_daemon.proofs.words.mirror_words_of.Goals as goal

pub returns-in_default : goal.returns-in_default
returns-in_default c =
    let told = subst (λ (m : Option ArgMatches). Matches c.args.words.now m) c.in_default.is c.in_ok-matches.ensures in
    sym (nothing_read (faults c.args.words.now) (options c.args.words.now) told)

pub returns : goal.returns
returns c =
    let words = c.args.words.now in
    let told = subst (λ (m : Option ArgMatches). Matches words m) c.in-Some.is c.in_ok-matches.ensures in
    IfOk-weaker c.words_in.result _ _
    (λ given h. h ∙ sym (values_read (faults words) (options words) (rows_of (found_of c.in-Some.matches)) told.0 told.1))
    c.words_in.ensures

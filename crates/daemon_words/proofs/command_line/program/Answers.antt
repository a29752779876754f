use Rattle.std.proofs.Common.{ap, ◌∙◌, ◌≡◌, true, refl}
use Rattle.clap.specs.{Simple.app_of_fields, Words.App, declared.builder.command.Command.TheViews.out-Command}
use Rattle.daemon_words.specs.Lending.{Reads}
use Rattle.daemon_words.proofs.command_line.program.Goals as goal

pub returns : goal.returns
unfolding Reads
returns c =
    let is : out-Command c.subcommand_required.result ≡ record (out-Command c.new.result) {
      no_binary_name = true;
      disable_help_flag = true;
      disable_help_subcommand = true;
      subcommand_required = true;
    } = rw (c.subcommand_required.ensures, c.disable_help_subcommand.ensures, c.disable_help_flag.ensures, c.no_binary_name.ensures) refl in (
      ap app_of_fields is ∙ ap (λ (a : App). record a {
        top = record a.top { no_binary_name = true; disable_help_flag = true; disable_help_subcommand = true; subcommand_required = true };
      }) c.new.ensures.app,
      rw is c.new.ensures.local,
    )

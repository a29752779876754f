use Rattle.std.{proofs.Common.{rules, refl, ◌≡◌, List, ℕ, Option, Some, None, ap, subst}, specs.Io.KnownBytes.Appends}
use Rattle.std.specs.Prelude.{take}
use Rattle.daemon_words.specs.declared.stop.Stop.TheVariants as stop
use Rattle.authority_daemon.{specs.{Commands.{Answers, may}, Runs.first_count}, proofs.Ending.{as_refused, done}}
use Rattle.authority_daemon.proofs.Ending.{failed, gathered, has_ended, is_within, on_true, over_input, refused}
use Rattle.authority_daemon.proofs.Ending.{tells_refusal, told_at_once}
use Rattle.authority_daemon.proofs.texts.run_over.Goals as goal

pub returns-in-Done-clause-run : goal.returns-in-Done-clause-run
returns-in-Done-clause-run g c =
    let same = ap g.K.Sink.written c.in-Ok-answer.ensures.streams.sink in
    let kept = ap g.S.Source.left c.in-Ok-answer.ensures.streams.source in
    record {
      words = search rules;
      ends =
          over_input (Some c.args.command.now) c.args.command.now _ _ refl (gathered c.args.command.now c.requires.input)
          (done (λ k bytes answer. Answers
          (may g.V.Verifier.may_accept g.V.Verifier.may_refuse g.N.Signer.may_give g.N.Signer.steps)
          k (first_count g.C.Clock.last c.answer.new.outside.clocks.items) bytes c.args.outside.now.signer
          c.answer.new.outside.signer answer) (Some c.args.command.now)
          c.args.command.now _ _ _ c.in-Ok.bytes c.in-Ok.bytes.items c.in-Ok-answer.text.items
          c.deref.result.now _ _
          refl c.in-Ok.ensures.whole refl c.in-Ok-answer.ensures.answer.answer
          c.deref.ensures.value
          (subst (λ (old : Option (List ℕ)). Appends old (g.K.Sink.written c.write_all.new.sink) c.deref.result.now)
          same c.in-Done.ensures.0));
      written = search rules;
      limit =
          over_input (Some c.args.command.now) c.args.command.now _ _ refl (gathered c.args.command.now c.requires.input)
          (λ c1 names. is_within _ _ c.in-Ok.bytes c.in-Ok.ensures.whole);
      read = on_true _ _ (has_ended _ _ _ c.in-Ok.bytes kept c.in-Ok.ensures.whole);
      stops = search rules;
      unread = search rules;
      source = search rules;
      sink = search rules;
      verifier = search rules;
      signer = search rules;
      others = search rules;
      unasked = search rules;
      unchecked = search rules;
      timed = search rules;
      other_clocks = search rules;
      untimed = search rules;
      unsigned = search rules;
      unasked_signer = search rules;
      ungated = search rules;
      unlinked = search rules;
    }

pub returns-in-Ok-answer-clause-run : goal.returns-in-Ok-answer-clause-run
returns-in-Ok-answer-clause-run g c =
    let same = ap g.K.Sink.written c.in-Ok-answer.ensures.streams.sink in
    let kept = ap g.S.Source.left c.in-Ok-answer.ensures.streams.source in
    record {
      words = search rules;
      ends =
          over_input (Some c.args.command.now) c.args.command.now _ _ refl (gathered c.args.command.now c.requires.input)
          (failed (λ k bytes answer. Answers
          (may g.V.Verifier.may_accept g.V.Verifier.may_refuse g.N.Signer.may_give g.N.Signer.steps)
          k (first_count g.C.Clock.last c.answer.new.outside.clocks.items) bytes c.args.outside.now.signer
          c.answer.new.outside.signer answer) (Some c.args.command.now)
          c.args.command.now _ _ _ c.in-Ok.bytes c.in-Ok.bytes.items c.in-Ok-answer.text.items
          c.deref.result.now c.in-Failed.sent _ _
          refl c.in-Ok.ensures.whole refl c.in-Ok-answer.ensures.answer.answer
          c.deref.ensures.value
          (subst (λ (old : Option (List ℕ)). Appends old (g.K.Sink.written c.write_all.new.sink)
          (take c.in-Failed.sent c.deref.result.now)) same c.in-Failed.ensures.0)
          c.in-Failed.ensures.1);
      written = search rules;
      limit =
          over_input (Some c.args.command.now) c.args.command.now _ _ refl (gathered c.args.command.now c.requires.input)
          (λ c1 names. is_within _ _ c.in-Ok.bytes c.in-Ok.ensures.whole);
      read = on_true _ _ (has_ended _ _ _ c.in-Ok.bytes kept c.in-Ok.ensures.whole);
      stops = search rules;
      unread = search rules;
      source = search rules;
      sink = search rules;
      verifier = search rules;
      signer = search rules;
      others = search rules;
      unasked = search rules;
      unchecked = search rules;
      timed = search rules;
      other_clocks = search rules;
      untimed = search rules;
      unsigned = search rules;
      unasked_signer = search rules;
      ungated = search rules;
      unlinked = search rules;
    }

pub returns-clause-run : goal.returns-clause-run
returns-clause-run g c =
    let kept = ap g.S.Source.left c.in-Err-Refused.ensures.streams.source in
    let stopped : c.in-Err-Refused.field-0 ≡ stop.Refused c.in-Err-Refused.refusal = search rules in
    let told = as_refused
    (may g.V.Verifier.may_accept g.V.Verifier.may_refuse g.N.Signer.may_give g.N.Signer.steps) _ _ _ _
    c.in-Err-Refused.field-0 c.in-Err-Refused.refusal stopped c.in-Err-Refused.ensures.answer in
    record {
      words = search rules;
      ends =
          over_input (Some c.args.command.now) c.args.command.now _ _ refl (gathered c.args.command.now c.requires.input)
          (refused (λ k bytes answer. Answers
          (may g.V.Verifier.may_accept g.V.Verifier.may_refuse g.N.Signer.may_give g.N.Signer.steps)
          k (first_count g.C.Clock.last c.answer.new.outside.clocks.items) bytes c.args.outside.now.signer
          c.answer.new.outside.signer answer) (Some c.args.command.now)
          c.args.command.now _ _ _ c.in-Ok.bytes c.in-Ok.bytes.items c.in-Err-Refused.refusal None None
          refl c.in-Ok.ensures.whole refl told.answer);
      written = search rules;
      limit =
          over_input (Some c.args.command.now) c.args.command.now _ _ refl (gathered c.args.command.now c.requires.input)
          (λ c1 names. is_within _ _ c.in-Ok.bytes c.in-Ok.ensures.whole);
      read = on_true _ _ (has_ended _ _ _ c.in-Ok.bytes kept c.in-Ok.ensures.whole);
      stops = search rules;
      unread = search rules;
      source = search rules;
      sink = search rules;
      verifier = told_at_once _ _ _ _ (tells_refusal _ _ c.in-Err-Refused.refusal _ told.verifier);
      signer = tells_refusal _ _ c.in-Err-Refused.refusal _ told.signer;
      others = search rules;
      unasked = search rules;
      unchecked = told.unchecked;
      timed = told.timed tt;
      other_clocks = search rules;
      untimed = search rules;
      unsigned = search rules;
      unasked_signer = told.unasked_signer;
      ungated = search rules;
      unlinked = search rules;
    }

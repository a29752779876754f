use Rattle.std.proofs.Common.{ℕ, Ok, Err, sym, subst}
use Rattle.key_port.specs.Answers.{rules as verifier_rules}
use Rattle.daemon_words.specs.{Stops.Answered, declared.stop.Stop.Stop}
use Rattle.station_commands.specs.{Voting.VoteAnswers, WithFile.{IsBeforeSigner, IsOfStation}}
use Rattle.station_commands.specs.declared.file_refusal.FileVoteRefusal.{FileVoteRefusal}
use Rattle.station_commands.proofs.FileAnswers.{before_vote, file_at, no_file, no_file_at, no_station, no_vote}
use Rattle.station_commands.proofs.FileAnswers.{station_at, unsigned_vote, voted}
use Rattle.station_commands.proofs.file_making.make_vote_with_file.Goals as goal

pub returns-in-Err-clause-answer : goal.returns-in-Err-clause-answer
returns-in-Err-clause-answer g c =
    rw c.of_file.ensures
    (no_file (verifier_rules g.V.Verifier.may_accept g.V.Verifier.may_refuse) g.N.Signer.may_give g.N.Signer.steps
    c.args.newest (g.C.Clock.last c.now-now.new.self) c.args.bytes.now c.args.signer.now c.args.signer.now c.in-Err.why
    (no_file_at c.args.bytes.now c.deref.result.now (g.C.Clock.last c.now-now.new.self) c.now-now.result
    c.in-Err.why c.deref.ensures c.now-now.ensures.last c.in-Err.ensures))

pub returns-in-Err-station_behind-clause-answer : goal.returns-in-Err-station_behind-clause-answer
returns-in-Err-station_behind-clause-answer g c =
    let front = c.in-Ok.front in
    rw c.of_fault.ensures
    (no_station (verifier_rules g.V.Verifier.may_accept g.V.Verifier.may_refuse) g.N.Signer.may_give g.N.Signer.steps
    c.args.newest (g.C.Clock.last c.now-now.new.self) c.args.bytes.now c.args.signer.now c.args.signer.now front.file
    front.used
    c.in-Err-station_behind.why
    (file_at c.args.bytes.now c.deref.result.now (g.C.Clock.last c.now-now.new.self) c.now-now.result front
    c.deref.ensures c.now-now.ensures.last c.in-Ok.ensures)
    (station_at c.args.newest front.file front.used c.args.bytes.now c.deref-2.result.now
    (Err c.in-Err-station_behind.why)
    c.deref-2.ensures c.in-Err-station_behind.ensures))

pub vote_from-requires : goal.vote_from-requires
vote_from-requires g c =
    let front = c.in-Ok.front in
    let read = station_at c.args.newest front.file front.used c.args.bytes.now c.deref-2.result.now
    (Ok (c.in-Ok-station_behind.station, c.in-Ok-station_behind.used)) c.deref-2.ensures
    c.in-Ok-station_behind.ensures in
    record { short = c.requires; within = read.1 }

pub returns-in-Ok-vote_from-clause-answer : goal.returns-in-Ok-vote_from-clause-answer
returns-in-Ok-vote_from-clause-answer g c =
    let checks = verifier_rules g.V.Verifier.may_accept g.V.Verifier.may_refuse in
    let front = c.in-Ok.front in
    let given = c.in-Ok-station_behind.station in
    let used = c.in-Ok-station_behind.used in
    let text = c.in-Ok-vote_from.text in
    let read = station_at c.args.newest front.file front.used c.args.bytes.now c.deref-2.result.now (Ok (given, used))
    c.deref-2.ensures c.in-Ok-station_behind.ensures in
    voted checks g.N.Signer.may_give g.N.Signer.steps c.args.newest (g.C.Clock.last c.now-now.new.self) c.args.bytes.now
    c.args.signer.now c.vote_from.new.signer front.file front.used given used
    (file_at c.args.bytes.now c.deref.result.now (g.C.Clock.last c.now-now.new.self) c.now-now.result front
    c.deref.ensures c.now-now.ensures.last c.in-Ok.ensures)
    read.0 text
    (subst (λ (now : ℕ).
    Answered (λ answer.
    VoteAnswers checks g.N.Signer.may_give g.N.Signer.steps now given used c.args.bytes.now answer c.args.signer.now
    c.vote_from.new.signer) (Ok text)) (sym c.now-now.ensures.last) c.in-Ok-vote_from.ensures.answer)

pub returns-clause-answer : goal.returns-clause-answer
returns-clause-answer g c =
    let checks = verifier_rules g.V.Verifier.may_accept g.V.Verifier.may_refuse in
    let front = c.in-Ok.front in
    let given = c.in-Ok-station_behind.station in
    let used = c.in-Ok-station_behind.used in
    let why = c.in-Err-vote_from.why in
    let read = station_at c.args.newest front.file front.used c.args.bytes.now c.deref-2.result.now (Ok (given, used))
    c.deref-2.ensures c.in-Ok-station_behind.ensures in
    rw c.of_vote.ensures
    (no_vote checks g.N.Signer.may_give g.N.Signer.steps c.args.newest
    (g.C.Clock.last c.now-now.new.self) c.args.bytes.now
    c.args.signer.now c.vote_from.new.signer front.file front.used given used
    (file_at c.args.bytes.now c.deref.result.now (g.C.Clock.last c.now-now.new.self) c.now-now.result front
    c.deref.ensures c.now-now.ensures.last c.in-Ok.ensures)
    read.0 why
    (subst (λ (now : ℕ).
    Answered (λ answer.
    VoteAnswers checks g.N.Signer.may_give g.N.Signer.steps now given used c.args.bytes.now answer c.args.signer.now
    c.vote_from.new.signer) (Err why)) (sym c.now-now.ensures.last) c.in-Err-vote_from.ensures.answer))

pub returns-clause-unasked : goal.returns-clause-unasked
returns-clause-unasked g c =
    λ of.
    c.in-Err-vote_from.ensures.unasked
    (before_vote c.in-Err-vote_from.why (subst (λ (w : Stop FileVoteRefusal). IsOfStation w) c.of_vote.ensures of))

pub returns-clause-unsigned : goal.returns-clause-unsigned
returns-clause-unsigned g c =
    λ before.
    c.in-Err-vote_from.ensures.unsigned
    (unsigned_vote c.in-Err-vote_from.why
    (subst (λ (w : Stop FileVoteRefusal). IsBeforeSigner w) c.of_vote.ensures before))

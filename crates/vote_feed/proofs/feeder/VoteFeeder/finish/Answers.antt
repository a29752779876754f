use Rattle.std.proofs.Common.{ℕ, List, Err, subst}
use Rattle.frame_terms.specs.declared.fault.ReadRefusal.TheVariants.{Frame}
use Rattle.vote_doc.specs.Reading.{ReadsVote}
use Rattle.vote_feed.{specs.Lending.taken_of, proofs.{Feeding.{known_faulty, known_whole}, Votes.vote_refused}}
use Rattle.vote_feed.proofs.feeder.VoteFeeder.finish.Goals as goal

pub returns-in-Going : goal.returns-in-Going
returns-in-Going c =
    subst (λ (l : List ℕ). ReadsVote l c.read_vote.result) c.self.view_is c.read_vote.ensures

pub whole_vote-requires-clause-whole : goal.whole_vote-requires-clause-whole
whole_vote-requires-clause-whole c =
    let i = c.self.inside in
    let machine = i.machine in
    known_whole i.state i.bytes.items i.beside machine.cursor machine.reader.across machine.reader.state machine.kept
    c.self.invariant.knows c.in-Whole.is

pub returns-in-Whole : goal.returns-in-Whole
returns-in-Whole c =
    subst (λ (l : List ℕ). ReadsVote l c.whole_vote.result) c.self.view_is c.whole_vote.ensures

pub returns-in-Fault : goal.returns-in-Fault
returns-in-Fault c =
    let i = c.self.inside in
    let machine = i.machine in
    subst (λ (l : List ℕ). ReadsVote l (Err (Frame c.in-Fault.fault))) c.self.view_is
    (vote_refused (taken_of i.bytes.items i.beside) c.in-Fault.fault
    (known_faulty i.state i.bytes.items i.beside machine.cursor machine.reader.across machine.reader.state machine.kept
    c.in-Fault.fault c.self.invariant.knows c.in-Fault.is))

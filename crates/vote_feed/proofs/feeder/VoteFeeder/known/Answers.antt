use Rattle.std.proofs.Common.{ℕ, List, refl, subst}
use Rattle.vote_feed.{specs.{Feeding.{IsFaulty, IsOpen, IsWhole}, Lending.taken_of}, proofs.Feeding.known_by}
use Rattle.vote_feed.proofs.{Feeding.{known_faulty, known_whole}, Votes.whole_kept}
use Rattle.vote_feed.proofs.feeder.VoteFeeder.known.Goals as goal

pub returns-in-Going : goal.returns-in-Going
returns-in-Going c =
    let i = c.self.inside in
    let machine = i.machine in
    subst (λ (l : List ℕ). IsOpen l) c.self.view_is
    (known_by i.state i.bytes.items i.beside machine.cursor machine.reader.across machine.reader.state machine.kept
    c.self.invariant.knows c.in-Going.is)

pub returns-in-Whole : goal.returns-in-Whole
returns-in-Whole c =
    let i = c.self.inside in
    let machine = i.machine in (
      refl,
      subst (λ (l : List ℕ). IsWhole l) c.self.view_is
          (whole_kept (taken_of i.bytes.items i.beside) machine.kept
          (known_whole i.state i.bytes.items i.beside machine.cursor machine.reader.across machine.reader.state
          machine.kept c.self.invariant.knows c.in-Whole.is)),
    )

pub returns-in-Fault : goal.returns-in-Fault
returns-in-Fault c =
    let i = c.self.inside in
    let machine = i.machine in (
      refl,
      subst (λ (l : List ℕ). IsFaulty l) c.self.view_is
          (record {
            fault = c.in-Fault.field-0;
            refused =
                known_faulty i.state i.bytes.items i.beside machine.cursor machine.reader.across machine.reader.state
                machine.kept c.in-Fault.field-0 c.self.invariant.knows c.in-Fault.is;
          }),
    )

-- What is known of the bytes behind some votes, whatever follows.
use Rattle.std.proofs.Common.{◌≡◌, ◌∙◌, ℕ, zero, suc, ◌+◌, ◌<◌, ◌^◌, List, ◌++◌, length, Option, Some, None, Ok, Err}
use Rattle.std.proofs.Common.{refl, ap, subst, arith, append_assoc}
use Rattle.item_terms.specs.Items.{items_from, no_limit}
use Rattle.frame_terms.specs.declared.fault.{FrameFault.FrameFault, ReadRefusal.{ReadRefusal, TheVariants.Frame}}
use Rattle.vote_terms.specs.Votes.{ReadVote}
use Rattle.vote_doc.specs.Reading.{vote_of}
use Rattle.vote_feed.{specs.Feeding.{IsFaulty, IsOpen, IsWhole}, proofs.WholeVotes.{faulty_stay, whole_stay}}
use Rattle.vote_feed.proofs.{BlankVotes.blank_are_none, EndedVotes.open_are_none}
use Rattle.compute_command.specs.{Beyonds.HasTooMany, Rests.{EndsVote, HasFault, HasNoVote, Read, next_by, next_of}}
use Rattle.compute_command.{specs.{Rests.vote_if, Votes.one_more_of}, proofs.TailEnds.{none_by, no_fault_by}}

-- where there may be one more, what stands there is a vote or its refusal
pub vote_there : (room : ℕ) (refusal : ReadRefusal) (bytes : List ℕ) → 0 < room → vote_if room refusal bytes ≡ vote_of bytes
vote_there zero refusal bytes some = absurd (omega (arith, some))
vote_there (suc room) refusal bytes some = refl

pub none_there : (room : ℕ) (refusal : ReadRefusal) (bytes : List ℕ) → room ≡ 0 → vote_if room refusal bytes ≡ Err refusal
none_there zero refusal bytes none = refl
none_there (suc room) refusal bytes none = absurd (omega (arith, none))

-- an end has no vote
end_has_none : (bytes : List ℕ) (vote : ReadVote) (end : ℕ) → one_more_of bytes ≡ None → vote_of bytes ≡ Ok (vote, end) → ⊥
end_has_none bytes vote end is read =
    let found = items_from 0 no_limit bytes in
    let none = none_by found.items found.fault is in
    let no_fault = no_fault_by found.items found.fault is in
    blank_are_none no_limit bytes vote end (λ i. record { items = none i; fault = no_fault i }) read

-- a whole vote ends there, whatever follows
pub ends_vote : (room : ℕ) (bytes : List ℕ) (vote : ReadVote) → 0 < room → IsWhole bytes
    → vote_of bytes ≡ Ok (vote, length bytes) → EndsVote room bytes vote
ends_vote room bytes vote some whole read more short = by (one_more_of (bytes ++ more)) refl
  where
    there : vote_of (bytes ++ more) ≡ Ok (vote, length bytes)
    there = whole_stay bytes more whole ∙ read

    by : (o : Option ReadRefusal) → one_more_of (bytes ++ more) ≡ o
        → next_by o room (bytes ++ more) ≡ Some (Ok (vote, length bytes))
    by None e = absurd (end_has_none (bytes ++ more) vote (length bytes) e there)
    by (Some refusal) e = ap (λ (r : Read). Some r) (vote_there room refusal (bytes ++ more) some ∙ there)

-- a faulty vote is refused, whatever follows
pub has_fault : (room : ℕ) (bytes : List ℕ) (fault : FrameFault) → 0 < room → IsFaulty bytes
    → vote_of bytes ≡ Err (Frame fault) → HasFault room bytes fault
has_fault room bytes fault some faulty read more short refusal is =
    ap (λ (o : Option ReadRefusal). next_by o room (bytes ++ more)) is
    ∙ ap (λ (r : Read). Some r) (vote_there room refusal (bytes ++ more) some
    ∙ faulty_stay bytes more fault faulty read)

-- one vote too many is refused, whatever follows
pub has_too_many : (room : ℕ) (bytes : List ℕ) (fault : FrameFault) → room ≡ 0 → HasTooMany bytes fault
    → HasFault room bytes fault
has_too_many room bytes fault none too_many more short refusal is =
    ap (λ (o : Option ReadRefusal). next_by o room (bytes ++ more)) (too_many more)
    ∙ ap (λ (r : Read). Some r) (none_there room (Frame fault) (bytes ++ more) none)

-- a fault stays one where more bytes have come
pub fault_stays : (room : ℕ) (bytes piece : List ℕ) (fault : FrameFault) → HasFault room bytes fault
    → HasFault room (bytes ++ piece) fault
fault_stays room bytes piece fault has more short refusal is =
    let same : (bytes ++ piece) ++ more ≡ bytes ++ (piece ++ more) = append_assoc bytes piece more in
    ap (next_of room) same
    ∙ has (piece ++ more) (subst (λ (l : List ℕ). length l < 2 ^ 61) same short) refusal
    (subst (λ (l : List ℕ). one_more_of l ≡ Some refusal) same is)

-- bytes of which nothing is known, and faulty ones, are no vote
pub open_has_none : (bytes : List ℕ) → IsOpen bytes → HasNoVote bytes
open_has_none bytes open_ vote end read = open_are_none bytes vote end open_ read

-- What comes of more bytes behind some votes.
use Rattle.std.proofs.Common.{◌≡◌, ◌∙◌, ℕ, zero, suc, ◌+◌, ◌<◌, ◌≤◌, ◌^◌, Bool, true, false, List, [], ◌++◌, length}
use Rattle.std.proofs.Common.{take, Option, Some, None, Result, Ok, Err, refl, sym, ap, subst, arith, length-append}
use Rattle.std.proofs.{Common.{length-take, append-nil, ⊎_elim}, lemmas.{Bool.cases_lt, List.take_all}}
use Rattle.std.{proofs.lemmas.List.Sums.fold-append, specs.{Prelude.IfSome, List.fold}}
use Rattle.frame_terms.specs.declared.fault.{FrameFault.FrameFault, ReadRefusal.{ReadRefusal, TheVariants.Frame}}
use Rattle.vote_terms.specs.Votes.{ReadVote}
use Rattle.vote_doc.specs.Reading.{ReadsVote, vote_of}
use Rattle.vote_parts.proofs.VoteFaults.{fault_of_vote}
use Rattle.vote_feed.specs.{declared.fed.Fed.Fed, Feeding.{EndsSo, Feeds, IsFaulty, IsOpen, IsWhole, end_of}}
use Rattle.vote_feed.proofs.{Votes.nothing_known, FedVotes.end_there}
use Rattle.vote_feed.specs.declared.fed.Fed.TheVariants as fed
use Rattle.compute_command.specs.declared.{rest.{Stage.Stage, Turn.Turn}, tail.Tail.{Tail, TheVariants.Blank}}
use Rattle.compute_command.specs.{Beyonds.HasTooMany, Furthers.IsFurther, Rests.{AnswersEnd, EndsVote, HasFault}}
use Rattle.compute_command.specs.Rests.{HasNoVote, IsFaultOf, IsRest, IsVoteOf, Knows, Read, Turns, next_by, next_of}
use Rattle.compute_command.specs.{Rests.turn_on, Tails.{is_end, tail_of, tail_with}, Votes.one_more_of}
use Rattle.compute_command.proofs.{Furthers.further_on, Rests.{ends_vote, fault_stays, has_fault, has_too_many}}
use Rattle.compute_command.proofs.{Rests.vote_there, TailEnds.{end_is_none, not_end}}
use Rattle.compute_command.specs.declared.rest.Stage.TheVariants as stage
use Rattle.compute_command.specs.declared.rest.Turn.TheVariants as turn

-- ---- a feeder's vote

-- a fault that is read stands within the bytes
pub fault_within : (bytes : List ℕ) (result : Result (ReadVote × ℕ) ReadRefusal) (refusal : ReadRefusal) (fault : FrameFault)
    → result ≡ Err refusal → refusal ≡ Frame fault → ReadsVote bytes result → fault.place ≤ length bytes
fault_within bytes result refusal fault is same reads =
    fault_of_vote bytes fault
    (subst (λ (r : Result (ReadVote × ℕ) ReadRefusal). ReadsVote bytes r) (is ∙ ap (λ (e : ReadRefusal). Err e) same)
    reads)

-- faulty bytes have no vote
pub faulty_has_none : (bytes : List ℕ) → IsFaulty bytes → HasNoVote bytes
faulty_has_none bytes faulty vote end is =
    let ends : Ok end ≡ Err (Frame faulty.fault) =
    sym (ap end_of is) ∙ end_there bytes (Err (Frame faulty.fault)) faulty.refused in
    cc ends

-- ---- some byte is taken

nothing_taken : (old new piece : List ℕ) (taken : ℕ) → new ≡ old ++ take taken piece → taken ≤ 0 → new ≡ old
nothing_taken old new piece taken is none =
    let zero_ : taken ≡ 0 = omega (arith, none) in
    is ∙ ap (λ (k : ℕ). old ++ take k piece) zero_ ∙ append-nil old

some_taken : (old new piece : List ℕ) (taken : ℕ) (end : Result ℕ ReadRefusal) → IsOpen old → new ≡ old ++ take taken piece
    → EndsSo new end → 0 < taken
some_taken old new piece taken end open_ is ends =
    ⊎_elim (λ (some : 0 < taken). some)
    (λ (none : taken ≤ 0). absurd (open_ end (subst (λ (l : List ℕ). EndsSo l end) (nothing_taken old new piece taken is none) ends)))
    (cases_lt 0 taken)

-- ---- no vote ends

-- the bytes are known as blank lines with what was taken
tail_more : (bytes piece : List ℕ) (tail : Tail) → tail ≡ tail_of bytes → fold tail_with tail piece ≡ tail_of (bytes ++ piece)
tail_more bytes piece tail is =
    ap (λ (t : Tail). fold tail_with t piece) is ∙ sym (fold-append tail_with (Blank 0) bytes piece)

pub turns_on : (start room : ℕ) (bytes piece part : List ℕ) (taken : ℕ) (tail : Tail) (now : Stage) → part ≡ take taken piece
    → taken ≤ length piece → (0 < length piece → 0 < taken) → tail ≡ tail_of bytes → Knows start room (bytes ++ part) now
    → Turns start room bytes piece (turn_on tail now part)
turns_on start room bytes piece part taken tail now is within some tail_is knows =
    let count : length part ≡ taken =
    ap (λ (l : List ℕ). length l) is ∙ length-take taken piece ∙ omega (arith, within) in
    let same : part ≡ take (length part) piece = is ∙ ap (λ (k : ℕ). take k piece) (sym count) in (
      record { within = omega (arith, count, within); some = λ lt. omega (arith, some lt, count) },
      subst (λ (l : List ℕ). IsRest start room (bytes ++ l) (record { tail = fold tail_with tail part; stage = now })) same
          (record { tail = tail_more bytes part tail tail_is; knows = knows }),
    )

-- all of the piece
pub turns_all : (start room : ℕ) (bytes piece : List ℕ) (tail : Tail) (now : Stage) → tail ≡ tail_of bytes
    → Knows start room (bytes ++ piece) now → Turns start room bytes piece (turn_on tail now piece)
turns_all start room bytes piece tail now is knows =
    turns_on start room bytes piece piece (length piece) tail now (sym (take_all (length piece) piece (omega arith))) (omega arith)
    (λ lt. lt) is knows

-- ---- nothing has come

pub begins_open : (start room : ℕ) (feeder : List ℕ) (is_full : Bool) → feeder ≡ [] → is_full ≡ false
    → (room ≡ 0 → is_full ≡ true) → IsRest start room [] (record { tail = Blank 0; stage = stage.Reading feeder })
begins_open start room feeder is_full same few full = record {
  tail = refl;
  knows = (same, nothing_known, some room full);
}
  where
    some : (room : ℕ) → (room ≡ 0 → is_full ≡ true) → 0 < room
    some zero full = let both : false ≡ true = sym few ∙ full refl in absurd (cc both)
    some (suc n) full = omega arith

-- ---- a feeder's answers

pub open_turns : (start room : ℕ) (old new piece : List ℕ) (tail : Tail) → 0 < room → tail ≡ tail_of old
    → new ≡ old ++ piece → IsOpen new → Turns start room old piece (turn_on tail (stage.Reading new) piece)
open_turns start room old new piece tail room_ is same open_ =
    turns_all start room old piece tail (stage.Reading new) is (same, subst IsOpen same open_, room_)

pub fault_turns : (start room : ℕ) (old new piece part : List ℕ) (taken : ℕ) (tail : Tail) (fault : FrameFault) → 0 < room
    → tail ≡ tail_of old → IsOpen old → part ≡ take taken piece → taken ≤ length piece → new ≡ old ++ take taken piece
    → IsFaulty new → IsFurther start (λ own. IsFaultOf new own) fault
    → Turns start room old piece (turn_on tail (stage.Faulted fault) part)
fault_turns start room old new piece part taken tail fault room_ is open_ part_is within same faulty read =
    let new_is : new ≡ old ++ part = same ∙ ap (λ (l : List ℕ). old ++ l) (sym part_is) in
    turns_on start room old piece part taken tail (stage.Faulted fault) part_is within
    (λ lt. some_taken old new piece taken (Err (Frame faulty.fault)) open_ same faulty.refused) is
    (subst (λ (l : List ℕ). IsFurther start (λ own. HasFault room l own) fault) new_is
    (further_on start (λ own. IsFaultOf new own) (λ own. HasFault room new own)
    (λ own has. has_fault room new own room_ faulty has) fault read))

pub vote_turns : (start room : ℕ) (old new piece : List ℕ) (taken : ℕ) (read : ReadVote × ℕ) → 0 < room → IsOpen old
    → taken ≤ length piece → new ≡ old ++ take taken piece → IsWhole new → IsVoteOf new read
    → Turns start room old piece (turn.Vote read.0 read.1 taken)
vote_turns start room old new piece taken (vote, end) room_ open_ within same whole is =
    let size : length new ≡ length old + taken =
    ap (λ (l : List ℕ). length l) same ∙ length-append old (take taken piece)
    ∙ ap (λ (k : ℕ). length old + k) (length-take taken piece ∙ omega (arith, within)) in
    let read : vote_of new ≡ Ok (vote, length new) = is.0 ∙ ap (λ (k : ℕ). Ok (vote, k)) is.1 in (
      record { within = within; some = λ lt. some_taken old new piece taken (Ok (length new)) open_ same whole },
      is.1 ∙ size,
      room_,
      subst (λ (l : List ℕ). EndsVote room l vote) same (ends_vote room new vote room_ whole read),
    )

-- ---- behind the last vote that may be there

pub too_many_turns : (start room : ℕ) (old new piece : List ℕ) (tail : Tail) (fault : FrameFault) → room ≡ 0
    → tail ≡ tail_of old → new ≡ old ++ piece → IsFurther start (λ own. HasTooMany new own) fault
    → Turns start room old piece (turn_on tail (stage.Faulted fault) piece)
too_many_turns start room old new piece tail fault none is same has =
    turns_all start room old piece tail (stage.Faulted fault) is
    (subst (λ (l : List ℕ). IsFurther start (λ own. HasFault room l own) fault) same
    (further_on start (λ own. HasTooMany new own) (λ own. HasFault room new own)
    (λ own many. has_too_many room new own none many) fault has))

pub look_turns : (start : ℕ) (old new piece : List ℕ) (tail : Tail) (told : Option FrameFault) (fault : FrameFault)
    (next : Turn) → tail ≡ tail_of old → new ≡ old ++ piece
    → IfSome told (λ f. IsFurther start (λ own. HasTooMany new own) f) → told ≡ Some fault
    → next ≡ turn_on tail (stage.Faulted fault) piece → Turns start 0 old piece next
look_turns start old new piece tail told fault next is same has some on =
    subst (λ (t : Turn). Turns start 0 old piece t) (sym on)
    (too_many_turns start 0 old new piece tail fault refl is same
    (subst (λ (o : Option FrameFault). IfSome o (λ f. IsFurther start (λ own. HasTooMany new own) f)) some has))

-- ---- what was fed

module _ (start room : ℕ) (old piece new : List ℕ) (given : Fed) (feeds : Feeds old piece new given) where
  pub faulted_none : (taken : ℕ) → given ≡ fed.Fault taken → HasNoVote new
  faulted_none taken is = faulty_has_none new (subst (λ (f : Fed). Feeds old piece new f) is feeds).2

  pub all_turns : (tail : Tail) (next : Turn) → given ≡ fed.All → 0 < room → tail ≡ tail_of old
      → next ≡ turn_on tail (stage.Reading new) piece → Turns start room old piece next
  all_turns tail next is some same on =
      let there = subst (λ (f : Fed). Feeds old piece new f) is feeds in
      subst (λ (t : Turn). Turns start room old piece t) (sym on)
      (open_turns start room old new piece tail some same there.0 there.1)

  pub whole_turns : (taken count : ℕ) (vote : ReadVote) → given ≡ fed.Whole taken → IsOpen old
      → IsVoteOf new (vote, count) → 0 < room → Turns start room old piece (turn.Vote vote count taken)
  whole_turns taken count vote is open_ read some =
      let there = subst (λ (f : Fed). Feeds old piece new f) is feeds in
      vote_turns start room old new piece taken (vote, count) some open_ there.0 there.1 there.2 read

  pub faulty_turns : (taken : ℕ) (tail : Tail) (fault : FrameFault) (next : Turn) → given ≡ fed.Fault taken → IsOpen old
      → IsFurther start (λ own. IsFaultOf new own) fault → 0 < room → tail ≡ tail_of old
      → next ≡ turn_on tail (stage.Faulted fault) (take taken piece) → Turns start room old piece next
  faulty_turns taken tail fault next is open_ read some same on =
      let there = subst (λ (f : Fed). Feeds old piece new f) is feeds in
      subst (λ (t : Turn). Turns start room old piece t) (sym on)
      (fault_turns start room old new piece (take taken piece) taken tail fault some same open_ refl there.0 there.1
      there.2 read)

-- ---- behind a fault

pub faulted_turns : (start room : ℕ) (old piece : List ℕ) (tail : Tail) (fault : FrameFault) → tail ≡ tail_of old
    → IsFurther start (λ own. HasFault room old own) fault
    → Turns start room old piece (turn_on tail (stage.Faulted fault) piece)
faulted_turns start room old piece tail fault is has =
    turns_all start room old piece tail (stage.Faulted fault) is
    (further_on start (λ own. HasFault room old own) (λ own. HasFault room (old ++ piece) own)
    (λ own there. fault_stays room old piece own there) fault has)

-- ---- the end

pub ends_none : (start room : ℕ) (bytes : List ℕ) → length bytes < 2 ^ 61 → is_end (tail_of bytes) ≡ true
    → AnswersEnd start room bytes None
ends_none start room bytes short is = ap (λ (o : Option ReadRefusal). next_by o room bytes) (end_is_none bytes short is)

abbrev NextFaulty : ℕ → List ℕ → FrameFault → Type 0
NextFaulty room bytes own = next_of room bytes ≡ Some (Err (Frame own))

has_then : (room : ℕ) (bytes : List ℕ) → length bytes < 2 ^ 61 → is_end (tail_of bytes) ≡ false → (own : FrameFault)
    → HasFault room bytes own → NextFaulty room bytes own
has_then room bytes short is own has =
    let more = not_end bytes is in
    subst (λ (l : List ℕ). (refusal : ReadRefusal) → one_more_of l ≡ Some refusal → NextFaulty room l own)
    (append-nil bytes)
    (has [] (subst (λ (l : List ℕ). length l < 2 ^ 61) (sym (append-nil bytes)) short)) more.refusal more.more

pub ends_faulted : (start room : ℕ) (bytes : List ℕ) (fault : FrameFault) → length bytes < 2 ^ 61
    → is_end (tail_of bytes) ≡ false → IsFurther start (λ own. HasFault room bytes own) fault
    → AnswersEnd start room bytes (Some fault)
ends_faulted start room bytes fault short is has =
    further_on start (λ own. HasFault room bytes own) (λ own. NextFaulty room bytes own) (has_then room bytes short is)
    fault
    has

fault_then : (room : ℕ) (bytes : List ℕ) → 0 < room → is_end (tail_of bytes) ≡ false → (own : FrameFault)
    → IsFaultOf bytes own → NextFaulty room bytes own
fault_then room bytes some is own read =
    let more = not_end bytes is in
    ap (λ (o : Option ReadRefusal). next_by o room bytes) more.more
    ∙ ap (λ (r : Read). Some r) (vote_there room more.refusal bytes some ∙ read)

pub ends_open : (start room : ℕ) (bytes : List ℕ) (fault : FrameFault) → 0 < room → is_end (tail_of bytes) ≡ false
    → IsFurther start (λ own. IsFaultOf bytes own) fault → AnswersEnd start room bytes (Some fault)
ends_open start room bytes fault some is read =
    further_on start (λ own. IsFaultOf bytes own) (λ own. NextFaulty room bytes own) (fault_then room bytes some is) fault
    read

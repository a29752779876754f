-- The command over a source: what was read of it, and what it answers then.
use Rattle.std.proofs.Common.{◌≡◌, ◌∙◌, ℕ, ◌+◌, ◌<◌, ◌≤◌, ◌^◌, List, [], ◌++◌, length, Option, Some, None, Result, Ok}
use Rattle.std.{proofs.Common.{Err, refl, sym, ap, subst, inl, inr, arith, length-append}, specs.Global.Vec}
use Rattle.std.specs.Io.KnownBytes.{Consumes, Keeps}
use Rattle.dir_bytes.{specs.{Causes.Rose, Streams.TakesAtMost}, proofs.Appending.consumes_more}
use Rattle.key_port.specs.Answers.{Rules}
use Rattle.vote_doc.specs.Holdings.{Holding}
use Rattle.daemon_words.specs.declared.{command.Compute.Compute, stop.Stop.Stop}
use Rattle.consensus_calc.specs.declared.record.CalcFault.{CalcFault}
use Rattle.consensus_calc.specs.declared.record.CalcFault.TheVariants as calc
use Rattle.daemon_words.specs.declared.stop.Stop.TheVariants as stop
use Rattle.compute_command.specs.declared.refusal.{AcceptRefusal.AcceptRefusal, ComputeRefusal.ComputeRefusal}
use Rattle.compute_command.specs.declared.{refusal.EndRefusal.EndRefusal, arriving.Arriving.Arriving}
use Rattle.compute_command.specs.{Answers.ComputeAnswers, Arriving.{ComputesFrom, EndsAll, EndsSo, HasReadVotes}}
use Rattle.compute_command.specs.{Arriving.{HasWhole, TellsEnd, TellsVerifier}, Checked.TellsFirst, Private.WritesText}
use Rattle.compute_command.{specs.Told.{by_accept, by_end, of_calc, of_end}, proofs.Computing.{text_answers, too_few}}
use Rattle.compute_command.specs.declared.refusal.AcceptRefusal.TheVariants as accept
use Rattle.compute_command.specs.declared.refusal.ComputeRefusal.TheVariants as refusal
use Rattle.compute_command.specs.declared.refusal.EndRefusal.TheVariants as end
use Rattle.compute_command.specs.declared.refusal.VoteListRefusal.TheVariants as list
use Rattle.compute_command.specs.declared.halt.Halt.TheVariants as halt

-- ---- pieces of a source

-- with one piece more
pub takes_most : (old mid new : Option (List ℕ)) (bytes piece : List ℕ) (most : ℕ) → Consumes old mid bytes
    → Consumes mid new piece → length bytes + length piece ≤ most → TakesAtMost old new most
takes_most old mid new bytes piece most taken more few =
    (bytes ++ piece, consumes_more old mid new bytes piece taken more, omega (arith, length-append bytes piece, few))

pub keeps_taken : (old mid new : Option (List ℕ)) (bytes : List ℕ) → Consumes old mid bytes → Keeps mid new
    → Consumes old new bytes
keeps_taken None mid new bytes taken same = tt
keeps_taken (Some all) None new bytes taken same = absurd taken
keeps_taken (Some all) (Some left) None bytes taken same = absurd same
keeps_taken (Some all) (Some left) (Some more) bytes taken same = taken ∙ ap (λ (l : List ℕ). bytes ++ l) (sym same)

-- with none more
pub keeps_most : (old mid new : Option (List ℕ)) (bytes : List ℕ) (most : ℕ) → Consumes old mid bytes → Keeps mid new
    → length bytes ≤ most → TakesAtMost old new most
keeps_most old mid new bytes most taken same few = (bytes, keeps_taken old mid new bytes taken same, few)

-- no byte has come
pub none_taken : (old : Option (List ℕ)) → Consumes old old []
none_taken None = tt
none_taken (Some all) = refl

pub whole_few : (old new : Option (List ℕ)) (limit : ℕ) (bytes : List ℕ) → HasWhole old new limit bytes
    → length bytes ≤ limit
whole_few None new limit bytes is = is
whole_few (Some all) new limit bytes (same, (end, few)) =
    let size = ap (λ (l : List ℕ). length l) same in
    omega (arith, size, few)

module _ (rules : Rules) (wanted : Compute) where
  -- there are more than the limit
  pub too_long : (old mid new : Option (List ℕ)) (bytes piece : List ℕ) (limit : ℕ) → Consumes old mid bytes
      → Consumes mid new piece → limit < length bytes + length piece
      → HasReadVotes rules wanted old new limit (Err halt.TooLong)
  too_long None mid new bytes piece limit taken more many = tt
  too_long (Some all) mid None bytes piece limit taken more many =
      absurd (consumes_more (Some all) mid None bytes piece taken more)
  too_long (Some all) mid (Some rest) bytes piece limit taken more many =
      let whole : all ≡ (bytes ++ piece) ++ rest = consumes_more (Some all) mid (Some rest) bytes piece taken more in
      let size = ap (λ (l : List ℕ). length l) whole in
      omega (arith, size, length-append (bytes ++ piece) rest, length-append bytes piece, many)

  -- ---- the answer

  refused_whole : (old new : Option (List ℕ)) (limit : ℕ) (bytes : List ℕ) (why : ComputeRefusal) → HasWhole old new limit bytes
      → ComputeAnswers rules wanted bytes (Err why)
      → ComputesFrom rules wanted old new limit (Err (halt.Stops (stop.Refused why)))
  refused_whole None new limit bytes why whole is = tt
  refused_whole (Some all) new limit bytes why (same, (end, few)) is =
      ((end, few), subst (λ (l : List ℕ). ComputeAnswers rules wanted l (Err why)) same is)

  text_whole : (old new : Option (List ℕ)) (limit : ℕ) (bytes : List ℕ) (text : Vec ℕ) → HasWhole old new limit bytes
      → ComputeAnswers rules wanted bytes (Ok text.items) → ComputesFrom rules wanted old new limit (Ok text)
  text_whole None new limit bytes text whole is = tt
  text_whole (Some all) new limit bytes text (same, (end, few)) is =
      ((end, few), subst (λ (l : List ℕ). ComputeAnswers rules wanted l (Ok text.items)) same is)

  without_memory : (old new : Option (List ℕ)) (limit : ℕ)
      → ComputesFrom rules wanted old new limit (Err (halt.Stops stop.Memory))
  without_memory None new limit = tt
  without_memory (Some all) new limit = tt

  -- what the end of the input stops for
  end_stops : (bytes : List ℕ) (why : EndRefusal) → EndsSo rules wanted bytes (Err (stop.Refused why))
      → ComputeAnswers rules wanted bytes (Err (by_end why))
  end_stops bytes (end.Fault fault) is = is
  end_stops bytes (end.Votes (accept.Vote number word)) (votes, read, first) =
      record { votes = votes; read = read; first = first }
  end_stops bytes (end.Votes accept.Verifier) (votes, read, asked) =
      record { votes = votes; read = read; asked = asked }

  ends_here : (old new : Option (List ℕ)) (limit : ℕ) (arriving : Arriving) (result : Result Holding (Stop EndRefusal))
      → limit < 2 ^ 60 → (read : HasReadVotes rules wanted old new limit (Ok arriving)) → EndsAll arriving result
      → EndsSo rules wanted read.0 result
  ends_here old new limit arriving result short (bytes, whole, is) ends =
      ends rules wanted bytes is (omega (arith, whole_few old new limit bytes whole, short))

  pub end_answers : (old new : Option (List ℕ)) (limit : ℕ) (arriving : Arriving) (why : Stop EndRefusal) → limit < 2 ^ 60
      → HasReadVotes rules wanted old new limit (Ok arriving) → EndsAll arriving (Err why)
      → ComputesFrom rules wanted old new limit (Err (halt.Stops (of_end why)))
  end_answers old new limit arriving stop.Memory short read ends = without_memory old new limit
  end_answers old new limit arriving (stop.Refused why) short (bytes, whole, is) ends =
      refused_whole old new limit bytes (by_end why) whole
      (end_stops bytes why (ends_here old new limit arriving (Err (stop.Refused why)) short (bytes, whole, is) ends))

  -- what comes of the held votes
  module _ (old new : Option (List ℕ)) (limit : ℕ) (arriving : Arriving) (accepted : Holding) (short : limit < 2 ^ 60)
      (read : HasReadVotes rules wanted old new limit (Ok arriving)) (ends : EndsAll arriving (Ok accepted)) where
    so : EndsSo rules wanted read.0 (Ok accepted)
    so = ends_here old new limit arriving (Ok accepted) short read ends

    pub text_written : (text : Vec ℕ) → WritesText wanted accepted.votes (Ok text)
        → ComputesFrom rules wanted old new limit (Ok text)
    text_written text writes =
        text_whole old new limit read.0 text read.1
        (text_answers rules wanted read.0 so.0 accepted.votes so.1 so.3 so.2 text writes)

    pub not_written : (why : CalcFault) → WritesText wanted accepted.votes (Err why)
        → ComputesFrom rules wanted old new limit (Err (halt.Stops (of_calc why)))
    not_written calc.Memory writes = without_memory old new limit
    not_written (calc.TooFew count roster) writes =
        refused_whole old new limit read.0 (refusal.Votes (list.TooFew count roster)) read.1
        (too_few rules wanted read.0 so.0 accepted.votes so.1 so.3 so.2 count roster writes)

-- ---- the verifier's count

-- it has not failed yet
pub tells_none : (count : ℕ) (first : Option AcceptRefusal) → first ≡ None → TellsFirst count count first
tells_none count None none = record {
  more = omega arith;
  cause = λ e. absurd (cc e);
  told = λ lt. absurd (omega (arith, lt));
}
tells_none count (Some why) none = absurd (cc none)

-- the verifier's fault is told only where it failed
pub end_told : (before now : ℕ) (first : Option AcceptRefusal) (why : Stop EndRefusal) → TellsFirst before now first
    → TellsEnd first (Err why) → of_end why ≡ stop.Refused refusal.Verifier → Rose before now
end_told before now first stop.Memory tells is told = absurd (cc told)
end_told before now first (stop.Refused (end.Fault fault)) tells is told = absurd (cc told)
end_told before now first (stop.Refused (end.Votes (accept.Vote number word))) tells is told = absurd (cc told)
end_told before now first (stop.Refused (end.Votes accept.Verifier)) tells is told = tells.cause is

-- and where it failed, unless something stands before it
pub end_tells : (before now : ℕ) (first : Option AcceptRefusal) (why : Stop EndRefusal) → TellsFirst before now first
    → TellsEnd first (Err why) → before < now → TellsVerifier (Err (halt.Stops (of_end why)))
end_tells before now first stop.Memory tells is lt = inr tt
end_tells before now first (stop.Refused (end.Fault fault)) tells is lt = inr tt
end_tells before now first (stop.Refused (end.Votes why)) tells is lt =
    let both : Some why ≡ Some accept.Verifier = sym is ∙ tells.told lt in
    let same : why ≡ accept.Verifier = cc both in
    inl (ap (λ (w : AcceptRefusal). halt.Stops (stop.Refused (by_accept w))) same)

-- it is not asked where the consensus is calculated
pub calc_told : (why : CalcFault) → of_calc why ≡ stop.Refused refusal.Verifier → ⊥
calc_told calc.Memory told = cc told
calc_told (calc.TooFew held roster) told = cc told

-- What a feeder gives of bytes that are a whole vote.
use Rattle.std.proofs.Common.{◌≡◌, ◌∙◌, ℕ, List, [], length, Result, Ok, Err, sym, ap, subst, append-nil}
use Rattle.frame_terms.specs.declared.fault.{FrameFault.FrameFault, ReadRefusal.{ReadRefusal, TheVariants.Frame}}
use Rattle.vote_terms.specs.Votes.{ReadVote}
use Rattle.vote_doc.specs.Reading.{ReadsVote, vote_of}
use Rattle.vote_feed.specs.Feeding.{EndsSo, IsWhole, end_of}

-- what ends so whatever follows ends so where nothing does
pub end_there : (bytes : List ℕ) (end : Result ℕ ReadRefusal) → EndsSo bytes end → end_of (vote_of bytes) ≡ end
end_there bytes end ends = subst (λ (l : List ℕ). end_of (vote_of l) ≡ end) (append-nil bytes) (ends [])

-- where it ends, or another place
abbrev pub end_or : ℕ → Result ℕ ReadRefusal → ℕ
end_or other (Ok end) = end
end_or other (Err refusal) = other

-- what is read of whole bytes is their vote, and all of them are its
pub whole_read : (bytes : List ℕ) (read : ReadVote × ℕ) → IsWhole bytes → ReadsVote bytes (Ok read)
    → (vote_of bytes ≡ Ok read) × (read.1 ≡ length bytes)
whole_read bytes (vote, end) whole reads =
    let ends : end_of (Ok (vote, end)) ≡ Ok (length bytes) =
    sym (ap end_of reads.0) ∙ end_there bytes (Ok (length bytes)) whole in
    (reads.0, ap (end_or 0) ends)

-- and no fault
pub never_refused : (bytes : List ℕ) (result : Result (ReadVote × ℕ) ReadRefusal) (refusal : ReadRefusal)
    (fault : FrameFault) → result ≡ Err refusal → refusal ≡ Frame fault → IsWhole bytes → ReadsVote bytes result → ⊥
never_refused bytes result refusal fault is same whole reads =
    let refused = subst (λ (r : Result (ReadVote × ℕ) ReadRefusal). ReadsVote bytes r)
    (is ∙ ap (λ (e : ReadRefusal). Err e) same) reads in
    let ends : Err (Frame fault) ≡ Ok (length bytes) =
    sym (ap end_of refused) ∙ end_there bytes (Ok (length bytes)) whole in
    cc ends

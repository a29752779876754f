-- The keys of certificates that ascend.
use Rattle.std.proofs.{Common.{◌≡◌, List, [], ◌∷◌, true}, lemmas.List.Elements.{All-nil, All-cons, All-head, All-tail}}
use Rattle.std.specs.Prelude.{All, AllPairs}
use Rattle.dir_values.proofs.Orders.{apart, AllPairs-cons, AllPairs-head, AllPairs-tail, AllPairs-nil}
use Rattle.dir_values.specs.Digests.{identity_below}
use Rattle.detached_sigs.specs.Signers.{AreApart}
use Rattle.mirror_core.specs.{Signers.{key_of, keys_of}, Sound.CertsAscend, States.KeptCert}

abbrev Before : KeptCert → KeptCert → Type 0
Before one other = identity_below one.cert.fingerprint other.cert.fingerprint ≡ true

apart_ahead : (kept : KeptCert) (certs : List KeptCert) → All (Before kept) certs → All (AreApart (key_of kept)) (keys_of certs)
apart_ahead kept [] up = All-nil (AreApart (key_of kept))
apart_ahead kept (next ∷ certs) up =
    All-cons (AreApart (key_of kept)) (key_of next) (keys_of certs)
    (apart kept.cert.fingerprint.0 next.cert.fingerprint.0 (All-head (Before kept) next certs up))
    (apart_ahead kept certs (All-tail (Before kept) next certs up))

-- they are of authorities that differ
pub keys_apart : (certs : List KeptCert) → CertsAscend certs → AllPairs AreApart (keys_of certs)
keys_apart [] up = AllPairs-nil AreApart
keys_apart (kept ∷ certs) up =
    AllPairs-cons AreApart (key_of kept) (keys_of certs) (apart_ahead kept certs (AllPairs-head Before kept certs up))
    (keys_apart certs (AllPairs-tail Before kept certs up))

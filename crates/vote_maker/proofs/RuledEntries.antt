-- Of what is known, ruled and assigned there is as much as there are relays; and the entries that are made of it.
use Rattle.std.proofs.{Common.{◌≡◌, ℕ, List, [], ◌∷◌, length, refl, ap, ap₂, ◌∙◌}, lemmas.List.length-map}
use Rattle.count_terms.specs.declared.newest.Newest.{Newest}
use Rattle.descriptor_doc.specs.declared.descriptor.Descriptor.{Descriptor}
use Rattle.flag_rules.specs.{Flags.flags_of, Relays.ruled_relays, declared.{flags.Flags.Flags, relay.Measured.Measured}}
use Rattle.flag_rules.specs.declared.{relay.{RelayFacts.RelayFacts, RuledRelay.RuledRelay}, ruling.Ruling.Ruling}
use Rattle.station_input.specs.declared.frame_said.MeasuredRelay.{MeasuredRelay}
use Rattle.vote_maker.specs.{Listings.{judged_relays, made_entries}, Made.entries_under, Private.AreAsMany}
use Rattle.vote_maker.{specs.{Private.MeasureAlike, Relays.{known_of, known_relays}}, proofs.Judged.length-flags}
use Rattle.vote_maker.proofs.Judged.{length-ruled}

pub as_many : (measured : List MeasuredRelay) (ds : List Descriptor) (now : ℕ) (ks : List RelayFacts)
    (rs : List Ruling) (fs : List Flags) → ks ≡ known_relays measured ds → length rs ≡ length ks
    → fs ≡ flags_of now (ruled_relays ks rs) → AreAsMany ds ks rs fs
as_many measured ds now ks rs fs known one_each flags =
    let ks_are : length ks ≡ length ds =
    ap (λ (l : List RelayFacts). length l) known ∙ length-map ds (known_of measured) in
    record {
      known_are = ks_are;
      rulings_are = one_each ∙ ks_are;
      flags_are =
          ap (λ (l : List Flags). length l) flags ∙ length-flags now (ruled_relays ks rs) ∙ length-ruled ks rs one_each
          ∙ ks_are;
    }

-- of relays of which the same was measured the same is known
pub known_alike : (measured others : List MeasuredRelay) → MeasureAlike measured others → (ds : List Descriptor)
    → known_relays others ds ≡ known_relays measured ds
known_alike measured others alike [] = refl
known_alike measured others alike (d ∷ ds) =
    ap₂ (λ (k : RelayFacts) (l : List RelayFacts). k ∷ l)
    (ap (λ (m : Measured). record (known_of measured d) { measured = m }) (alike d.identity))
    (known_alike measured others alike ds)

-- the entries of relays of which this is known and ruled, with these flags, are those under these rulings
pub entries_ruled : (newest : Newest) (measured : List MeasuredRelay) (ds : List Descriptor) (now : ℕ) (ks : List RelayFacts)
    (rs given : List Ruling) (fs : List Flags) → ks ≡ known_relays measured ds → rs ≡ given
    → fs ≡ flags_of now (ruled_relays ks rs)
    → made_entries newest (judged_relays ds (ruled_relays ks rs) fs) ≡ entries_under newest measured ds now given
entries_ruled newest measured ds now ks rs given fs known is flags =
    let ruled : ruled_relays ks rs ≡ ruled_relays (known_relays measured ds) given =
    ap₂ (λ (k : List RelayFacts) (r : List Ruling). ruled_relays k r) known is in
    ap₂ (λ (r : List RuledRelay) (f : List Flags). made_entries newest (judged_relays ds r f)) ruled
    (flags ∙ ap (λ (r : List RuledRelay). flags_of now r) ruled)

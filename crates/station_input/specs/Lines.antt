-- What the lines of a station input say, or the place of what is wrong: their arguments from left to right.
use Rattle.std.specs.Prelude.{ℕ, Result, Ok, Err, if◌then◌else◌}
use Rattle.item_terms.specs.Items.{Item}
use Rattle.dir_values.specs.{Digests.fingerprint, Numbers.number_of}
use Rattle.flag_rules.specs.declared.operator.OperatorRule.{OperatorRule}
use Rattle.frame_values.specs.{declared.found.DirSource.DirSource, Arguments.{arguments_of, front, others, field, next}}
use Rattle.frame_values.specs.Lines.{source_of}
use Rattle.station_input.specs.Fields.{Identities, bandwidth, long_number, new_identity, peer, ruling_named}
use Rattle.station_input.specs.{Sources.fits_line, declared.frame_said.MeasuredRelay.MeasuredRelay}
use Rattle.station_input.specs.declared.frame_said.{MemberLine.MemberLine, ScheduleLine.ScheduleLine}

-- who the own authority is, as a `dir-source` line says it, and such a line is none that is too long
abbrev pub own_of : Item → Result DirSource ℕ
own_of item =
    let from_name = arguments_of item in
    let name = front item.place from_name in
    let host = front item.place (others (others from_name)) in
    next (source_of item) (λ source. if fits_line name.text host.text source then Ok source else Err item.place)

-- when the authority votes: the interval between two consensuses, and the times for exchanging votes and signatures
abbrev pub schedule_of : Item → Result ScheduleLine ℕ
schedule_of item =
    let from_first = arguments_of item in
    let from_second = others from_first in
    let from_third = others from_second in
    let first = front item.place from_first in
    let second = front item.place from_second in
    let third = front item.place from_third in
    next (field first (long_number first.text)) (λ interval.
    next (field second (long_number second.text)) (λ vote.
    next (field third (long_number third.text)) (λ dist.
    Ok (record { interval = interval; vote = vote; dist = dist }))))

-- an authority of the network, and where it is reached
abbrev pub member_of : Item → Result MemberLine ℕ
member_of item =
    let first = front item.place (arguments_of item) in
    let second = front item.place (others (arguments_of item)) in
    next (field first (fingerprint first.text)) (λ identity.
    next (field second (peer second)) (λ address.
    Ok (record { identity = identity; peer = address })))

-- what is ruled of a relay, which is none of these
abbrev pub rule_of : Identities → Item → Result OperatorRule ℕ
rule_of earlier item =
    let first = front item.place (arguments_of item) in
    let second = front item.place (others (arguments_of item)) in
    next (field first (ruling_named first.text)) (λ ruled.
    next (field second (new_identity earlier second.text)) (λ identity.
    Ok (record { identity = identity; ruling = ruled })))

-- What was measured of a relay, which is none of these: when it was last found reachable, its mean time between failures,
-- its fractional uptime, for how long it is known, and its bandwidth.
abbrev pub measured_of : Identities → Item → Result MeasuredRelay ℕ
measured_of earlier item =
    let from_first = arguments_of item in
    let from_second = others from_first in
    let from_third = others from_second in
    let from_fourth = others from_third in
    let from_fifth = others from_fourth in
    let from_sixth = others from_fifth in
    let first = front item.place from_first in
    let second = front item.place from_second in
    let third = front item.place from_third in
    let fourth = front item.place from_fourth in
    let fifth = front item.place from_fifth in
    let sixth = front item.place from_sixth in
    next (field first (new_identity earlier first.text)) (λ identity.
    next (field second (long_number second.text)) (λ reached_at.
    next (field third (long_number third.text)) (λ wmtbf.
    next (field fourth (number_of fourth.text)) (λ wfu_ppm.
    next (field fifth (long_number fifth.text)) (λ known_for.
    next (field sixth (bandwidth sixth.text)) (λ kb.
    Ok (record {
      identity = identity;
      measured = record {
        reached_at = reached_at;
        wmtbf = wmtbf;
        wfu_ppm = wfu_ppm;
        known_for = known_for;
        kb = kb;
      };
    })))))))

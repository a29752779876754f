-- The places of what is wrong with the items of a certificate, and of the first fault of one that stands alone.
use Rattle.std.{proofs.Common.{ℕ, length}, specs.Prelude.{◌||◌, codes}}
use Rattle.item_terms.specs.Items.{Item}
use Rattle.frame_values.specs.{Lines.{argument_of, fingerprint_of, literal, time_of}, Signatures.{has_words, object_of}}
use Rattle.frame_values.specs.declared.values.Value.{Value}
use Rattle.authority_certs.specs.{Tables.{cert_tables, cert_value}, declared.frame.CertKind.CertKind}
use Rattle.authority_certs.specs.declared.frame.CertKind.TheVariants as kind
use Rattle.fault_places.{specs.Within.{FaultsStandIn, HasFaultsWithin}, proofs.FirstFaults.first_faults}
use Rattle.fault_places.proofs.{ArgumentPlaces.PlaceIn, ItemPlaces.{IsItemIn, argument_in, fingerprint_in, item_in}}
use Rattle.fault_places.proofs.{ItemPlaces.{literal_in, object_in, then_in, time_in}, Placed.placed_in}

-- whatever is wrong with an item of a certificate stands within so many bytes, whatever document the certificate is of
pub certificate_in : (V : Type 0) (n : ℕ) (item : Item) → IsItemIn n item → (of_kind : CertKind)
    → PlaceIn {A = Value V} n (cert_value of_kind item)
certificate_in V n item is kind.Version = then_in n (literal (codes "3") item) _ (literal_in n item is (codes "3"))
certificate_in V n item is kind.Address = then_in n (argument_of item) _ (argument_in n item is)
certificate_in V n item is kind.Fingerprint = then_in n (fingerprint_of item) _ (fingerprint_in n item is)
certificate_in V n item is kind.Time = then_in n (time_of item) _ (time_in n item is)
certificate_in V n item is kind.Key =
    let wanted = has_words item.object (codes "RSA PUBLIC KEY") in
    then_in n (object_of wanted item) _ (object_in n item is wanted item.object)
certificate_in V n item is kind.Crosscert =
    let wanted = has_words item.object (codes "ID SIGNATURE") || has_words item.object (codes "SIGNATURE") in
    then_in n (object_of wanted item) _ (object_in n item is wanted item.object)
certificate_in V n item is kind.Certification =
    let wanted = has_words item.object (codes "SIGNATURE") in
    then_in n (object_of wanted item) _ (object_in n item is wanted item.object)

cert_faults_in : FaultsStandIn cert_tables
cert_faults_in = record {
  said = λ bytes across of_kind item there.
      placed_in (length bytes) (cert_value of_kind item)
      (certificate_in _ (length bytes) item (item_in bytes item there) of_kind);
  noted = λ bytes across of_kind keyword item said there e. tt;
}

pub cert_faults : HasFaultsWithin cert_tables
cert_faults = first_faults cert_tables cert_faults_in

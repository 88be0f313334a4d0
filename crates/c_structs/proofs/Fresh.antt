-- The numbers of a fresh record, kind by kind. Computed.
use mathlib.Core.Path.{◌≡◌, refl}
use Rattle.kinds.specs.declared.kind.Kind.{Kind}
use Rattle.kinds.specs.declared.kind.Kind.TheVariants as K
use Rattle.kinds.specs.Fields.{start}
use Rattle.kinds.specs.Layout.{layout}
use Rattle.records.specs.Records.{record_of}
use Rattle.numbers.specs.Numbers.{as_numbers, one_number}
use Rattle.numbers.specs.SetOne.{with_number}
use Rattle.numbers.proofs.OneNumber.{computed}

pub fresh_plain : (k : Kind) → (k ≡ K.FunctionBlockInfo → ⊥) → one_number (layout k).status 1 0 ≡ as_numbers (record_of k 1 start)
unfolding computed start
fresh_plain K.EndpointDiscovery o = refl
fresh_plain K.EndpointInfo o = refl
fresh_plain K.DeviceIdentity o = refl
fresh_plain K.EndpointName o = refl
fresh_plain K.ProductInstanceId o = refl
fresh_plain K.FunctionBlockInfo o = absurd (o refl)
fresh_plain K.FunctionBlockName o = refl

pub fresh-block : with_number 9 4 3 (one_number (layout K.FunctionBlockInfo).status 1 0) ≡ as_numbers (record_of K.FunctionBlockInfo 1 start)
unfolding computed start
fresh-block = refl

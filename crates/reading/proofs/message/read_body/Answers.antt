-- `message::read_body` meets its contract, kind by kind.
use mathlib.Core.Path.{refl}
use Rattle.std.proofs.lemmas.Result.{err_from_is_err_and}
use Rattle.laws.specs.Pick.{both}
use Rattle.slots.specs.Slots.{those}
use Rattle.kinds.specs.declared.kind.Kind.TheVariants as K
use Rattle.kinds.specs.Fields.{same, decided}
use Rattle.kinds.specs.Layout.{layout}
use Rattle.reading.proofs.Bodies.{plain_body, good_told, bad_told}
use Rattle.reading.proofs.message.read_body.Goals as goal

pub returns-in-EndpointDiscovery : goal.returns-in-EndpointDiscovery
unfolding layout those same decided both
returns-in-EndpointDiscovery c = plain_body K.EndpointDiscovery _ c.in-EndpointDiscovery.is refl refl c.endpoint_discovery.ensures

pub returns-in-EndpointInfo : goal.returns-in-EndpointInfo
unfolding layout those same decided both
returns-in-EndpointInfo c = plain_body K.EndpointInfo _ c.in-EndpointInfo.is refl refl c.endpoint_info.ensures

pub returns-in-DeviceIdentity : goal.returns-in-DeviceIdentity
unfolding layout those same decided both
returns-in-DeviceIdentity c = plain_body K.DeviceIdentity _ c.in-DeviceIdentity.is refl refl c.device_identity.ensures

pub returns-in_err-check_text-in-EndpointName : goal.returns-in_err-check_text-in-EndpointName
unfolding layout
returns-in_err-check_text-in-EndpointName c =
    let p = err_from_is_err_and c.from_residual.result c.from_residual.ensures.1 in
    rw (p.1, p.2) (bad_told K.EndpointName _ c.in-EndpointName.is refl c.in_err-check_text-in-EndpointName.ensures)

pub returns-in-EndpointName : goal.returns-in-EndpointName
unfolding layout
returns-in-EndpointName c = good_told K.EndpointName _ c.in-EndpointName.is refl c.in_ok-check_text-in-EndpointName.ensures c.endpoint_name.ensures

pub returns-in_err-check_text-in-ProductInstanceId : goal.returns-in_err-check_text-in-ProductInstanceId
unfolding layout
returns-in_err-check_text-in-ProductInstanceId c =
    let p = err_from_is_err_and c.from_residual-in_err-check_text-in-ProductInstanceId.result c.from_residual-in_err-check_text-in-ProductInstanceId.ensures.1 in
    rw (p.1, p.2) (bad_told K.ProductInstanceId _ c.in-ProductInstanceId.is refl c.in_err-check_text-in-ProductInstanceId.ensures)

pub returns-in-ProductInstanceId : goal.returns-in-ProductInstanceId
unfolding layout
returns-in-ProductInstanceId c = good_told K.ProductInstanceId _ c.in-ProductInstanceId.is refl c.in_ok-check_text-in-ProductInstanceId.ensures c.product_instance_id.ensures

pub returns-in_err-check_text-in-FunctionBlockName : goal.returns-in_err-check_text-in-FunctionBlockName
unfolding layout
returns-in_err-check_text-in-FunctionBlockName c =
    let p = err_from_is_err_and c.from_residual-in_err-check_text-in-FunctionBlockName.result c.from_residual-in_err-check_text-in-FunctionBlockName.ensures.1 in
    rw (p.1, p.2) (bad_told K.FunctionBlockName _ c.in-FunctionBlockName.is refl c.in_err-check_text-in-FunctionBlockName.ensures)

pub returns-in-FunctionBlockName : goal.returns-in-FunctionBlockName
unfolding layout
returns-in-FunctionBlockName c = good_told K.FunctionBlockName _ c.in-FunctionBlockName.is refl c.in_ok-check_text-in-FunctionBlockName.ensures c.function_block_name.ensures

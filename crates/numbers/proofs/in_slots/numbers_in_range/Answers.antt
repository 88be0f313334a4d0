-- `in_slots::numbers_in_range` meets its contract, by the laws of `Computed`.
use mathlib.Core.Path.{refl}
use Rattle.laws.specs.Lists.{map}
use Rattle.kinds.specs.declared.kind.Kind.TheVariants as K
use Rattle.kinds.specs.Layout.{layout}
use Rattle.numbers.specs.FromNumbers.{within}
use Rattle.numbers.proofs.Computed.{range_told}
use Rattle.numbers.proofs.in_slots.numbers_in_range.Goals as goal

pub returns-in-EndpointDiscovery : goal.returns-in-EndpointDiscovery
unfolding within map layout
returns-in-EndpointDiscovery c = range_told K.EndpointDiscovery _ c.in-EndpointDiscovery.is c.slot_numbers-ns.ensures c.are_within.ensures

pub returns-in-EndpointInfo : goal.returns-in-EndpointInfo
unfolding within map layout
returns-in-EndpointInfo c = range_told K.EndpointInfo _ c.in-EndpointInfo.is c.slot_numbers-ns.ensures c.are_within-in-EndpointInfo.ensures

pub returns-in-DeviceIdentity : goal.returns-in-DeviceIdentity
unfolding within map layout
returns-in-DeviceIdentity c = range_told K.DeviceIdentity _ c.in-DeviceIdentity.is c.slot_numbers-ns.ensures c.are_within-in-DeviceIdentity.ensures

pub returns-in-EndpointName : goal.returns-in-EndpointName
unfolding within map layout
returns-in-EndpointName c = range_told K.EndpointName _ c.in-EndpointName.is c.slot_numbers-ns.ensures refl

pub returns-in-ProductInstanceId : goal.returns-in-ProductInstanceId
unfolding within map layout
returns-in-ProductInstanceId c = range_told K.ProductInstanceId _ c.in-ProductInstanceId.is c.slot_numbers-ns.ensures refl

pub returns-in-FunctionBlockInfo : goal.returns-in-FunctionBlockInfo
unfolding within map layout
returns-in-FunctionBlockInfo c = range_told K.FunctionBlockInfo _ c.in-FunctionBlockInfo.is c.slot_numbers-ns.ensures c.are_within-in-FunctionBlockInfo.ensures

pub returns-in-FunctionBlockName : goal.returns-in-FunctionBlockName
unfolding within map layout
returns-in-FunctionBlockName c = range_told K.FunctionBlockName _ c.in-FunctionBlockName.is c.slot_numbers-ns.ensures c.are_within-in-FunctionBlockName.ensures

-- `calls::frayedbin_walk` meets its contract, as what it calls does: where the size is not 0 the walk answers another type.
use mathlib.Core.Path.{sym, ap, ◌∙◌}
use native.Mathlib.Omega.{arith}
use Rattle.laws.specs.Lists.{each}
use Rattle.kinds.specs.Fields.{same, decided}
use Rattle.kinds.specs.Layout.{layout}
use Rattle.records.specs.Records.{fields_in, lookup, first_part}
use Rattle.c_structs.specs.Crossed.{walk_crossed}
use Rattle.walking.proofs.Other.{size_found}
use Rattle.frayedbin.proofs.Walks.{size_inside, case_crossed, message_crossed}
use Rattle.frayedbin.proofs.calls.frayedbin_walk.Goals as goal

pub offset_bounds-words-position : goal.offset_bounds-words-position
unfolding each layout first_part fields_in lookup same decided
offset_bounds-words-position c = let e = sym c.in-Some.is ∙ c.other_size.ensures in omega (arith, size_inside _ _ _ e, (size_found _ _ _ e).0)

pub bounds-words-position : goal.bounds-words-position
unfolding each layout first_part fields_in lookup same decided
bounds-words-position c = let e = sym c.in-Some.is ∙ c.other_size.ensures in omega (arith, size_inside _ _ _ e, (size_found _ _ _ e).0)

pub overflow_add-position : goal.overflow_add-position
unfolding each layout first_part fields_in lookup same decided
overflow_add-position c = let e = sym c.in-Some.is ∙ c.other_size.ensures in omega (arith, size_inside _ _ _ e, (size_found _ _ _ e).0)

pub returns-in-Some : goal.returns-in-Some
unfolding each layout first_part fields_in lookup same decided
returns-in-Some c = c.other.ensures ∙ rw c.type_of.ensures (ap walk_crossed (size_found _ _ _ (sym c.in-Some.is ∙ c.other_size.ensures)).1)

pub returns-in-Refused : goal.returns-in-Refused
unfolding each layout first_part fields_in lookup same decided
returns-in-Refused c = case_crossed _ _ c.walk.ensures c.in-Refused.is c.refused.ensures

pub returns-in-EndpointDiscovery : goal.returns-in-EndpointDiscovery
unfolding each layout first_part fields_in lookup same decided
returns-in-EndpointDiscovery c = message_crossed _ _ c.walk.ensures c.in-Message.is c.in-EndpointDiscovery.is c.of_endpoint_discovery.ensures c.found.ensures

pub returns-in-EndpointInfo : goal.returns-in-EndpointInfo
unfolding each layout first_part fields_in lookup same decided
returns-in-EndpointInfo c = message_crossed _ _ c.walk.ensures c.in-Message.is c.in-EndpointInfo.is c.of_endpoint_info.ensures c.found-in-EndpointInfo.ensures

pub returns-in-DeviceIdentity : goal.returns-in-DeviceIdentity
unfolding each layout first_part fields_in lookup same decided
returns-in-DeviceIdentity c = message_crossed _ _ c.walk.ensures c.in-Message.is c.in-DeviceIdentity.is c.of_device_identity.ensures c.found-in-DeviceIdentity.ensures

pub returns-in-EndpointName : goal.returns-in-EndpointName
unfolding each layout first_part fields_in lookup same decided
returns-in-EndpointName c = message_crossed _ _ c.walk.ensures c.in-Message.is c.in-EndpointName.is c.of_text.ensures c.found-in-EndpointName.ensures

pub returns-in-ProductInstanceId : goal.returns-in-ProductInstanceId
unfolding each layout first_part fields_in lookup same decided
returns-in-ProductInstanceId c = message_crossed _ _ c.walk.ensures c.in-Message.is c.in-ProductInstanceId.is c.of_text-in-ProductInstanceId.ensures c.found-in-ProductInstanceId.ensures

pub returns-in-FunctionBlockInfo : goal.returns-in-FunctionBlockInfo
unfolding each layout first_part fields_in lookup same decided
returns-in-FunctionBlockInfo c = message_crossed _ _ c.walk.ensures c.in-Message.is c.in-FunctionBlockInfo.is c.of_function_block_info.ensures c.found-in-FunctionBlockInfo.ensures

pub returns-in-FunctionBlockName : goal.returns-in-FunctionBlockName
unfolding each layout first_part fields_in lookup same decided
returns-in-FunctionBlockName c = message_crossed _ _ c.walk.ensures c.in-Message.is c.in-FunctionBlockName.is c.of_text-in-FunctionBlockName.ensures c.found-in-FunctionBlockName.ensures

-- The sentence of each refusal, and the name of each kind.
use Rattle.std.specs.Prelude.{ℕ, List, [], ◌∷◌, get_or, Option, Some, None}
use Rattle.kinds.specs.declared.kind.Kind.{Kind}
use Rattle.kinds.specs.declared.kind.Kind.TheVariants as K
use Rattle.kinds.specs.Layout.{kind_of}
use Rattle.ascii_lines.specs.Ascii.{ascii}

-- by number; 0 is no refusal
unfoldable pub sentences : List (List ℕ)
sentences =
    ascii "done"
    ∷ ascii "there are too few words"
    ∷ ascii "the length is not a multiple of four words"
    ∷ ascii "there are more than 64 packets"
    ∷ ascii "a packet's type is not F"
    ∷ ascii "the status is none of the seven"
    ∷ ascii "a later packet has another status"
    ∷ ascii "a packet's format is not the one due"
    ∷ ascii "a later packet has another block number"
    ∷ ascii "the MIDI 1.0 port is 3"
    ∷ ascii "the direction is 0"
    ∷ ascii "the text is not UTF-8"
    ∷ ascii "a number is above its field's largest, or a code names no choice"
    ∷ ascii "this kind has no such field"
    ∷ ascii "there is too little room"
    ∷ []

-- empty for any other number
abbrev pub refusal_sentence : ℕ → List ℕ
refusal_sentence number = get_or sentences number []

unfoldable pub kind_name : Kind → List ℕ
kind_name K.EndpointDiscovery = ascii "endpoint-discovery"
kind_name K.EndpointInfo = ascii "endpoint-info"
kind_name K.DeviceIdentity = ascii "device-identity"
kind_name K.EndpointName = ascii "endpoint-name"
kind_name K.ProductInstanceId = ascii "product-instance-id"
kind_name K.FunctionBlockInfo = ascii "function-block-info"
kind_name K.FunctionBlockName = ascii "function-block-name"

abbrev pub known_name : Option Kind → List ℕ
known_name (Some kind) = kind_name kind
known_name None = []

-- the name of the kind that has this status; empty if none has
abbrev pub status_name : ℕ → List ℕ
status_name status = known_name (kind_of status)

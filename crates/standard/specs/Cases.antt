-- The twelve cases of document 01, in one statement. Words not shown are zero; `a` is 0x61.
use Rattle.std.specs.Prelude.{ℕ, ◌*◌, ◌-◌, ◌≡◌, true, List, [], ◌∷◌, ◌++◌, length, replicate}
use Rattle.kinds.specs.declared.kind.Kind.{Kind}
use Rattle.kinds.specs.declared.kind.Kind.TheVariants as K
use Rattle.kinds.specs.Fields.{Flag, Number, Text, Setting}
use Rattle.records.specs.Answers.{accepted, said_read}
use Rattle.records.specs.Told.{refusal}
use Rattle.standard.specs.Reading.{read_of, text_at}
use Rattle.standard.specs.Words.{fresh}
use Rattle.standard.specs.Lists.{set_all}

-- the given words, with zeros up to n packets
abbrev packets : ℕ → List ℕ → List ℕ
packets n ws = ws ++ replicate (n * 4 - length ws) 0

-- n letters `a`
abbrev pub letters : ℕ → List ℕ
letters n = replicate n 0x61

-- three words full of them
abbrev pub full : List ℕ
full = 0x61616161 ∷ 0x61616161 ∷ 0x61616161 ∷ []

-- a fresh message in n packets that held other words before, after the settings
abbrev made : Kind → ℕ → List Setting → List ℕ
made k n ss = set_all ss (fresh k (replicate (n * 4) 0x12345678))

-- the settings give these words, and reading them gives the numbers and the text
pub record Is (k : Kind) (n : ℕ) (ss : List Setting) (ws numbers text : List ℕ) : Type 0 where
  pub writes : made k n ss ≡ ws
  pub reads : said_read (read_of ws) ≡ accepted numbers
  pub says : text_at k ws ≡ text

-- set an endpoint name; set a block number and a block name
abbrev named : List ℕ → List Setting
named t = Setting.text Text.endpoint_name t ∷ []

abbrev block : ℕ → List ℕ → List Setting
block b t = Setting.number Number.function_block b ∷ Setting.text Text.function_block_name t ∷ []

-- the settings of case 11
abbrev info : List Setting
info =
    Setting.number Number.info_version_major 1
    ∷ Setting.number Number.info_version_minor 1
    ∷ Setting.flag Flag.static_function_blocks true
    ∷ Setting.number Number.number_of_function_blocks 4
    ∷ Setting.flag Flag.supports_midi2_protocol true
    ∷ Setting.flag Flag.supports_midi1_protocol true
    ∷ []

pub record Twelve : Type 0 where
  -- endpoint name: empty, `A`, fourteen and fifteen `a`
  pub case1 : Is K.EndpointName 1 (named []) (packets 1 (0xF0030000 ∷ [])) (0x03 ∷ 1 ∷ []) []
  pub case2 : Is K.EndpointName 1 (named (0x41 ∷ [])) (packets 1 (0xF0034100 ∷ [])) (0x03 ∷ 1 ∷ []) (0x41 ∷ [])
  pub case3 : Is K.EndpointName 1 (named (letters 14)) (0xF0036161 ∷ full) (0x03 ∷ 1 ∷ []) (letters 14)
  pub case4 : Is K.EndpointName 2 (named (letters 15)) (packets 2 ((0xF4036161 ∷ full) ++ 0xFC036100 ∷ [])) (0x03 ∷ 2 ∷ []) (letters 15)
  -- block 5: thirteen and fourteen `a`
  pub case5 : Is K.FunctionBlockName 1 (block 5 (letters 13)) (0xF0120561 ∷ full) (0x12 ∷ 1 ∷ 5 ∷ []) (letters 13)
  pub case6 : Is K.FunctionBlockName 2 (block 5 (letters 14)) (packets 2 ((0xF4120561 ∷ full) ++ 0xFC120561 ∷ [])) (0x12 ∷ 2 ∷ 5 ∷ []) (letters 14)
  -- fresh block info
  pub case7 : Is K.FunctionBlockInfo 1 [] (packets 1 (0xF0110003 ∷ [])) (0x11 ∷ 1 ∷ 0 ∷ 0 ∷ 0 ∷ 0 ∷ 3 ∷ 0 ∷ 0 ∷ 0 ∷ 0 ∷ []) []
  -- port 3 is refused before direction 0
  pub case8 : said_read (read_of (packets 1 (0xF011000C ∷ []))) ≡ refusal 9 0
  -- zeros are dropped before the text is checked
  pub case9 : (said_read (read_of (packets 1 (0xF003C300 ∷ 0xA9000000 ∷ []))) ≡ accepted (0x03 ∷ 1 ∷ [])) × (text_at K.EndpointName (packets 1 (0xF003C300 ∷ 0xA9000000 ∷ [])) ≡ 0xC3 ∷ 0xA9 ∷ [])
  pub case10 : said_read (read_of (packets 1 (0xF003C328 ∷ []))) ≡ refusal 11 0
  -- endpoint info 1.1, static, 4 blocks, both protocols
  pub case11 : Is K.EndpointInfo 1 info (packets 1 (0xF0010101 ∷ 0x84000300 ∷ [])) (0x01 ∷ 1 ∷ 1 ∷ 1 ∷ 1 ∷ 1 ∷ 1 ∷ 0 ∷ 0 ∷ 4 ∷ []) []
  -- case 6 with another block number in its second packet
  pub case12 : said_read (read_of (packets 2 ((0xF4120561 ∷ full) ++ 0xFC120661 ∷ []))) ≡ refusal 8 1

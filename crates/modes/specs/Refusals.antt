-- Refusals: each reason's number and layer, and the rule that the first true sentence is told.
use Rattle.std.specs.Prelude.{ℕ, Bool, cond, List, [], ◌∷◌, Ok, Err, Result}
use Rattle.modes.specs.declared.refusal.Reason.{Reason}
use Rattle.modes.specs.declared.refusal.Reason.TheVariants.{KeyLength, NonceLength, TagLength, Mark, Number, EnvelopeLength, LabelLength, TextLength, MaskIndex, BlockCount, Range, BufferLength, NoSuchBlock, Limit, LabelSum, TagMismatch, Padding, SheetsDiffer, Clash}
use Rattle.modes.specs.declared.refusal.Layer.{Layer}
use Rattle.modes.specs.declared.refusal.Layer.TheVariants.{Cipher, Holder, Sheet, Envelope}
use Rattle.modes.specs.declared.refusal.Refusal.{Refusal}

abbrev pub number_of : Reason → ℕ
number_of KeyLength = 1
number_of NonceLength = 2
number_of TagLength = 3
number_of Mark = 4
number_of Number = 5
number_of EnvelopeLength = 6
number_of LabelLength = 7
number_of TextLength = 8
number_of MaskIndex = 9
number_of BlockCount = 10
number_of Range = 11
number_of BufferLength = 12
number_of NoSuchBlock = 13
number_of Limit = 14
number_of LabelSum = 15
number_of TagMismatch = 16
number_of Padding = 17
number_of SheetsDiffer = 18
number_of Clash = 19

-- the layer of a refusal that a call of layer `caller` finds
abbrev pub layer_of : Layer → Reason → Layer
layer_of caller KeyLength = Cipher
layer_of caller NonceLength = Cipher
layer_of caller TagLength = Cipher
layer_of caller Mark = Envelope
layer_of caller Number = Envelope
layer_of caller EnvelopeLength = Envelope
layer_of caller LabelLength = Cipher
layer_of caller TextLength = Sheet
layer_of caller MaskIndex = Cipher
layer_of caller BlockCount = Sheet
layer_of caller Range = Sheet
layer_of caller BufferLength = caller
layer_of caller NoSuchBlock = Holder
layer_of caller Limit = caller
layer_of caller LabelSum = Envelope
layer_of caller TagMismatch = caller
layer_of caller Padding = Sheet
layer_of caller SheetsDiffer = Sheet
layer_of caller Clash = Sheet

abbrev pub refusal : Layer → Reason → ℕ → Refusal
refusal caller why at = record { reason = why; layer = layer_of caller why; place = at }

-- a sentence about a call, and the refusal that it is declined with where the sentence is true
pub record Claim : Type 0 where
  pub holds : Bool
  pub told : Refusal

abbrev pub claim : Bool → Refusal → Claim
claim b e = record { holds = b; told = e }

-- a call's answer: the refusal of the first true sentence, or the value where none is true
abbrev pub answer : {A : Type 0} → List Claim → A → Result A Refusal
answer [] v = Ok v
answer (c ∷ cs) v = cond c.holds (Err c.told) (answer cs v)

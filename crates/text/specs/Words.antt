-- What is shown of a refusal.
use Rattle.std.specs.Prelude.{ℕ, List, ◌++◌, codes, decimal}
use Rattle.modes.specs.Refusals.{number_of}
use Rattle.modes.specs.declared.refusal.Layer.{Layer}
use Rattle.modes.specs.declared.refusal.Layer.TheVariants.{Cipher, Holder, Sheet, Envelope}
use Rattle.modes.specs.declared.refusal.Reason.{Reason}
use Rattle.modes.specs.declared.refusal.Reason.TheVariants.{KeyLength, NonceLength, TagLength, Mark, Number, EnvelopeLength, LabelLength}
use Rattle.modes.specs.declared.refusal.Reason.TheVariants.{TextLength, MaskIndex, BlockCount, Range, BufferLength, NoSuchBlock, Limit}
use Rattle.modes.specs.declared.refusal.Reason.TheVariants.{LabelSum, TagMismatch, Padding, SheetsDiffer, Clash}
use Rattle.modes.specs.declared.refusal.Refusal.{Refusal}

abbrev pub layer_text : Layer → List ℕ
layer_text Cipher = codes "cipher"
layer_text Holder = codes "holder"
layer_text Sheet = codes "sheet"
layer_text Envelope = codes "envelope"

abbrev pub reason_text : Reason → List ℕ
reason_text KeyLength = codes "the key is not 16 bytes"
reason_text NonceLength = codes "the nonce is not 13 bytes"
reason_text TagLength = codes "the tag is not 16 bytes"
reason_text Mark = codes "the envelope does not begin with 52 53"
reason_text Number = codes "a number in the envelope is malformed or out of range"
reason_text EnvelopeLength = codes "the envelope's length is not what its numbers say"
reason_text LabelLength = codes "the label or plate is over 4096 bytes"
reason_text TextLength = codes "the text would pass 131071 bytes"
reason_text MaskIndex = codes "the mask index is out of range"
reason_text BlockCount = codes "the holder's count is not what the call needs"
reason_text Range = codes "the position or amount exceeds the text"
reason_text BufferLength = codes "the buffer has the wrong size"
reason_text NoSuchBlock = codes "no block has that number"
reason_text Limit = codes "the holder's limit is too low"
reason_text LabelSum = codes "the label has another label sum than the sheet"
reason_text TagMismatch = codes "the tag disagrees"
reason_text Padding = codes "the last block's padding is malformed"
reason_text SheetsDiffer = codes "the sheets differ in key, nonce, length or label sum"
reason_text Clash = codes "both copies changed a block"

-- number, layer and place
abbrev pub refusal_text : Refusal → List ℕ
refusal_text r = decimal (number_of r.reason) ++ (codes " " ++ (layer_text r.layer ++ (codes " " ++ decimal r.place)))

-- Checked transactions are serializable, over bytes, which are a kind of sheets.
use Rattle.std.specs.Prelude.{◌≡◌}
use Rattle.lists.specs.Basics.{true, List, [], map, all}
use Rattle.model.specs.Spares.{sheet_for}
use Rattle.model.specs.ByteHistories.{Bytes, saying, Passing, after_on}
use Rattle.model.specs.RecoveryPass.{Visit, none_prepared, Closing}
use Rattle.model.specs.Turns.{Turn, turn_event_on, turn_after_on, turns_left, LegalTurns}
use Rattle.model.specs.Kinds.{bytes_kind}
use Rattle.model.specs.Recovered.{model_on, standing_on, bytes_recovered}
use Rattle.model.specs.SerialOrder.{calls_on, begun_checked, serial_order, serial_line, Serializable}
use Rattle.turns.specs.Bytes.{bytes_faithful}
use Rattle.serial.specs.Kinds.{checked_serializable_of, serial_bytes_of}

-- For all bytes that refusals 1 and 2 let pass, without a PREPARED line; for every legal history of turns on them in which every transaction is begun as checked.
pub checked_serializable : (b : Bytes) → Passing b → none_prepared (saying b).lines ≡ true → (xs : List Turn)
    → LegalTurns turn_after_on turn_event_on xs b [] → all begun_checked (calls_on xs b) ≡ true → Serializable (saying b).lines (model_on xs b) (calls_on xs b)
checked_serializable b p z xs legal checked = checked_serializable_of bytes_kind bytes_faithful b p z xs legal checked

-- so that after every recovery pass the record sheet is, byte for byte, what the serial run leaves
pub serial_bytes_lem : (b : Bytes) → Passing b → none_prepared (saying b).lines ≡ true → (xs : List Turn) → LegalTurns turn_after_on turn_event_on xs b []
    → all begun_checked (calls_on xs b) ≡ true → (vs : List Visit) → Closing saying after_on vs (turns_left turn_after_on xs b)
    → (bytes_recovered vs xs b).records
    ≡ sheet_for (map (serial_line (saying b).lines (model_on xs b) (serial_order (calls_on xs b))) (standing_on xs b)) (saying b).size
serial_bytes_lem b p z xs legal checked vs c = serial_bytes_of bytes_kind bytes_faithful b p z xs legal checked vs c

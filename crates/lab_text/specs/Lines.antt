-- A script as the list of its lines.
use Rattle.std.specs.Prelude.{ℕ, ◌+◌, ◌-◌, ◌^◌, nat_lt, Bool, true, false, ◌==◌, ◌||◌, not, if◌then◌else◌}
use Rattle.std.specs.Prelude.{List, [], ◌∷◌, length, take, slice_index}

-- the bytes up to the next line feed (10) or up to the end, and whether a line feed ends them
pub record Piece : Type 0 where
  pub text : List ℕ
  pub ended : Bool

-- the pieces with one byte more at their front
abbrev pub onto : ℕ → List Piece → List Piece
onto byte [] = (record { text = byte ∷ []; ended = false }) ∷ []
onto byte (piece ∷ pieces) = (record { text = byte ∷ piece.text; ended = piece.ended }) ∷ pieces

-- a script cut behind each line feed
abbrev pub pieces_of : List ℕ → List Piece
pieces_of [] = []
pieces_of (byte ∷ bytes) =
    if byte == 10 then (record { text = []; ended = true }) ∷ pieces_of bytes else onto byte (pieces_of bytes)

-- the bytes that a piece takes of the script, its line feed with them
abbrev pub size_of : Piece → ℕ
size_of piece = length piece.text + (if piece.ended then 1 else 0)

-- whether a text, or its end in the script, is past its limit
abbrev pub passes_limits : ℕ → ℕ → Bool
passes_limits text behind = nat_lt 65536 text || nat_lt (2 ^ 30) behind

-- whether a piece that begins behind `used` bytes keeps to both limits: of a line and of the whole script
abbrev pub is_within : ℕ → Piece → Bool
is_within used piece = not (passes_limits (length piece.text) (used + size_of piece))

-- a text without the carriage return (13) at its end, where one stands there
abbrev pub without_return : List ℕ → List ℕ
without_return text =
    if slice_index text (length text - 1) == 13 then take (length text - 1) text else text

-- a carriage return is dropped before a line feed alone
abbrev pub piece_text : Piece → List ℕ
piece_text piece = if piece.ended then without_return piece.text else piece.text

-- a line of a script: its text, or one past a limit, which nothing follows
pub data ScriptLine : Type 0 where
  Text : List ℕ → ScriptLine
  TooLong : ScriptLine

-- the lines of the pieces, the first of which begins behind `used` bytes
abbrev pub lines_of : ℕ → List Piece → List ScriptLine
lines_of used [] = []
lines_of used (piece ∷ pieces) =
    if is_within used piece
    then Text (piece_text piece) ∷ lines_of (used + size_of piece) pieces
    else TooLong ∷ []

-- the lines of the rest of a script, which begins behind `used` bytes
abbrev pub lines_from : ℕ → List ℕ → List ScriptLine
lines_from used bytes = lines_of used (pieces_of bytes)

-- whether a line feed stands among the bytes
abbrev pub has_feed : List ℕ → Bool
has_feed [] = false
has_feed (byte ∷ bytes) = byte == 10 || has_feed bytes

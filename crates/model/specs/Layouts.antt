-- The layout of every line, as data: widths, kinds and ranges of its fields, in the order of document 01's tables.
use Rattle.std.specs.Prelude.{◌+◌, ◌-◌, ◌*◌, ◌∷◌}
use Rattle.lists.specs.Basics.{ℕ, zero, suc, List, [], take, drop, get_or, bytes}
use Rattle.model.specs.Types.{Layout, RecordLine, KeyLine, CoordinatorHead, CoordinatorLine, Column, Kind, Figure, StateWord, BeforeWord, DecisionWord, UnitLetter}

-- bytes of a word
abbrev pub word_bytes : ℕ
word_bytes = 10

-- the words of a kind, each right-justified in ten bytes; a field of fewer columns holds the last bytes of one
unfoldable pub words : Kind → List (List ℕ)
words Figure = []
words StateWord = bytes "    ABSENT" ∷ bytes " COMMITTED" ∷ bytes "  PREPARED" ∷ []
words BeforeWord = bytes "         -" ∷ bytes "    ABSENT" ∷ bytes " COMMITTED" ∷ []
words DecisionWord = bytes "         -" ∷ bytes " COMMITTED" ∷ bytes "   ABORTED" ∷ []
-- capitals, and then the small letters of storages that can't be read consistently
words UnitLetter =
    bytes "         R"
    ∷ bytes "         P"
    ∷ bytes "         T"
    ∷ bytes "         N"
    ∷ bytes "         S"
    ∷ bytes "         r"
    ∷ bytes "         p"
    ∷ bytes "         t"
    ∷ bytes "         n"
    ∷ bytes "         s"
    ∷ []

-- word n of a kind, ten spaces where there is none
abbrev pub word_at : Kind → ℕ → List ℕ
word_at kind n = get_or (words kind) n (bytes "          ")

-- a figure from low to high in w columns
abbrev pub figures : ℕ → ℕ → ℕ → Column
figures w low high = record { width = w; kind = Figure; low = low; high = high }

-- a word of a kind that has high + 1 of them
abbrev pub word : ℕ → Kind → ℕ → Column
word w kind high = record { width = w; kind = kind; low = 0; high = high }

-- what stands past the last column
abbrev pub no_column : Column
no_column = figures 0 0 0

-- document 01, "Record sheet", with "a before state of 10 columns between column 2 and before version" (document 02, note 7)
unfoldable pub record_layout : List Column
record_layout =
    figures 2 1 9  -- storage
    ∷ figures 3 1 99  -- namespace
    ∷ figures 3 1 99  -- table
    ∷ figures 6 0 99999  -- partition
    ∷ figures 6 0 99999  -- clustering
    ∷ word word_bytes StateWord 2
    ∷ figures 6 0 99999  -- version
    ∷ figures 4 0 999  -- TxID
    ∷ figures 9 0 99999999  -- column 1
    ∷ figures 9 0 99999999  -- column 2
    ∷ word word_bytes BeforeWord 2  -- before state
    ∷ figures 6 0 99999  -- before version
    ∷ figures 4 0 999  -- before TxID
    ∷ figures 9 0 99999999  -- before column 1
    ∷ figures 9 0 99999999  -- before column 2
    ∷ figures 11 0 4294967295  -- prepare clock
    ∷ []

-- the fields of an image: version, TxID and columns
abbrev pub image_fields : ℕ
image_fields = 4

-- The fields of a record line by their indices: after the key the state word, then the image, the before state, the image before, the clock.
abbrev pub state_field : ℕ
state_field = 5

abbrev pub image_field : ℕ
image_field = state_field + 1

abbrev pub txid_field : ℕ
txid_field = image_field + 1

abbrev pub before_state_field : ℕ
before_state_field = image_field + image_fields

abbrev pub before_field : ℕ
before_field = before_state_field + 1

abbrev pub before_txid_field : ℕ
before_txid_field = before_field + 1

abbrev pub clock_field : ℕ
clock_field = before_field + image_fields

-- "The key is the first five fields."
unfoldable pub key_layout : List Column
key_layout = take state_field record_layout

-- version, TxID and columns of an image, and the columns alone
unfoldable pub image_layout : List Column
image_layout = take image_fields (drop image_field record_layout)

unfoldable pub columns_layout : List Column
columns_layout = drop 2 image_layout

-- the bytes of a line before its field i
unfoldable pub offset : ℕ → List Column → ℕ
offset zero cs = 0
offset (suc i) [] = 0
offset (suc i) (c ∷ cs) = c.width + offset i cs

-- where a field of a record line begins, and how wide it is
abbrev pub record_offset : ℕ → ℕ
record_offset i = offset i record_layout

abbrev pub record_width : ℕ → ℕ
record_width i = (get_or record_layout i no_column).width

-- bytes of an image
abbrev pub image_bytes : ℕ
image_bytes = offset image_fields image_layout

-- document 01, "Coordinator sheet": the head, its count and nine unit letters, a space before the first
unfoldable pub head_layout : List Column
head_layout =
    figures 4 0 999  -- count of numbers issued
    ∷ word 2 UnitLetter 9  -- the unit of storage 1, with the space before it
    ∷ word 1 UnitLetter 9
    ∷ word 1 UnitLetter 9
    ∷ word 1 UnitLetter 9
    ∷ word 1 UnitLetter 9
    ∷ word 1 UnitLetter 9
    ∷ word 1 UnitLetter 9
    ∷ word 1 UnitLetter 9
    ∷ word 1 UnitLetter 9
    ∷ []

abbrev pub decision_column : Column
decision_column = word word_bytes DecisionWord 2

-- line k: its number and its decision
unfoldable pub line_layout : List Column
line_layout = figures 4 1 999 ∷ decision_column ∷ []

abbrev pub decision_field : ℕ
decision_field = 1

unfoldable pub layout : Layout → List Column
layout RecordLine = record_layout
layout KeyLine = key_layout
layout CoordinatorHead = head_layout
layout CoordinatorLine = line_layout

-- bytes of the key at the front of a record line
abbrev pub key_bytes : ℕ
key_bytes = 20

-- bytes of a record line, and of a coordinator line, LF included
abbrev pub record_bytes : ℕ
record_bytes = 108

abbrev pub coordinator_bytes : ℕ
coordinator_bytes = 15

-- where LF stands in a coordinator line
abbrev pub line_end : ℕ
line_end = coordinator_bytes - 1

-- bytes of the smallest coordinator sheet, a head and one line, and of the largest sheets: 500 record lines; a head and 999 coordinator lines
abbrev pub least_coordinator_bytes : ℕ
least_coordinator_bytes = coordinator_bytes * 2

abbrev pub most_record_bytes : ℕ
most_record_bytes = record_bytes * 500

abbrev pub most_coordinator_bytes : ℕ
most_coordinator_bytes = coordinator_bytes * 1000

-- numbers of a record, and of a coordinator's head
abbrev pub record_fields : ℕ
record_fields = 16

abbrev pub head_fields : ℕ
head_fields = 10

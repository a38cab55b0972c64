-- What a line of a history says (docs/REPLAY.md): words parted by single spaces, the first of them the call's name or `sheets`, the others its numbers. And
-- what reading it byte by byte tells of that.
use Rattle.std.specs.Prelude.{◌≡◌, ◌+◌, ◌≤◌, ◌<◌, ◌&&◌, ◌∷◌, Option, None, Some, not, find, position}
use Rattle.std.specs.Option.{unwrap_or, option_map}
use Rattle.std.specs.List.{position_or_len}
use Rattle.std.proofs.Common.{◌∙◌}
use Rattle.lists.specs.Basics.{refl, sym, ap, ap₂, ℕ, eqb, leb, ltb, ltb-false, Bool, true, false, cond, List, [], length, take, drop}
use Rattle.lists.specs.Basics.{set, replicate, drop_of_length-le, drop-drop, drop-cons, arith, add-one, eq_list, bytes}
use Rattle.decimal.specs.Field.{figure}
use Rattle.script.specs.declared.scan.Command.{Command}
use Rattle.script.specs.declared.scan.Kind.{Kind}
use Rattle.script.specs.declared.scan.Kind.TheVariants.{Check, Begin, Read, Second, Put, Advance, Close, Abort, Visit, Lookup, Line, Add, Remove, Show, Set, Entry, Sheets, BadLine}
use Rattle.script.specs.declared.scan.Numbers.{Numbers}

-- How many numbers there are.

-- of an entry: its key, whether it was absent, its image, and what was put
abbrev pub entry_numbers : ℕ
entry_numbers = 13

-- in the longest line, which sets an entry: its slot, its place and its numbers
abbrev pub line_numbers : ℕ
line_numbers = 2 + entry_numbers

-- The words.

-- a byte more at the front of the first word
unfoldable pub longer : ℕ → List (List ℕ) → List (List ℕ)
longer b [] = (b ∷ []) ∷ []
longer b (w ∷ ws) = (b ∷ w) ∷ ws

-- the words of a line: where two spaces meet, or one stands at an end, there is an empty word
unfoldable pub words : List ℕ → List (List ℕ)
words [] = [] ∷ []
words (b ∷ s) = cond (eqb b 32) ([] ∷ words s) (longer b (words s))

-- The call that a word names.

-- the first of four that is named, or else another
unfoldable pub first_named : Bool → Kind → Bool → Kind → Bool → Kind → Bool → Kind → Kind → Kind
first_named a k b l c m d n other = cond a k (cond b l (cond c m (cond d n other)))

-- the last call on a slot
unfoldable pub close_kind : List ℕ → Kind
close_kind w = cond (eq_list w (bytes "close")) Close BadLine

-- the other calls on a slot
unfoldable pub other_slot_kind : List ℕ → Kind
other_slot_kind w =
    first_named (eq_list w (bytes "abort")) Abort (eq_list w (bytes "show")) Show (eq_list w (bytes "set")) Set (eq_list w (bytes "entry")) Entry (close_kind w)

-- a call on a slot
unfoldable pub slot_kind : List ℕ → Kind
slot_kind w =
    first_named (eq_list w (bytes "begin")) Begin (eq_list w (bytes "read")) Read (eq_list w (bytes "put")) Put (eq_list w (bytes "advance")) Advance (other_slot_kind w)

-- adding and removing a line, or a call on a slot
unfoldable pub shift_kind : List ℕ → Kind
shift_kind w = cond (eq_list w (bytes "add")) Add (cond (eq_list w (bytes "remove")) Remove (slot_kind w))

-- any call
unfoldable pub call_kind : List ℕ → Kind
call_kind w =
    first_named (eq_list w (bytes "check")) Check (eq_list w (bytes "visit")) Visit (eq_list w (bytes "lookup")) Lookup (eq_list w (bytes "line")) Line (shift_kind w)

-- a call, or all sheets; the second call of a read is there for two sheets only
unfoldable pub kind_of : Bool → List ℕ → Kind
kind_of two w = cond (eq_list w (bytes "sheets")) Sheets (cond (two && eq_list w (bytes "second")) Second (call_kind w))

-- the word that asks for it
unfoldable pub name : Kind → List ℕ
name Check = bytes "check"
name Begin = bytes "begin"
name Read = bytes "read"
name Second = bytes "second"
name Put = bytes "put"
name Advance = bytes "advance"
name Close = bytes "close"
name Abort = bytes "abort"
name Visit = bytes "visit"
name Lookup = bytes "lookup"
name Line = bytes "line"
name Add = bytes "add"
name Remove = bytes "remove"
name Show = bytes "show"
name Set = bytes "set"
name Entry = bytes "entry"
name Sheets = bytes "sheets"
name BadLine = []

-- whether it is asked for by this word, on the joined sheet or on two
abbrev pub asks : Bool → List ℕ → Kind → Bool
asks two w Second = two && eq_list w (name Second)
asks two w k = eq_list w (name k)

-- all that a word may ask for
abbrev pub named : List Kind
named =
    Sheets ∷ Second ∷ Check ∷ Visit ∷ Lookup ∷ Line ∷ Add ∷ Remove ∷ Begin ∷ Read ∷ Put ∷ Advance ∷ Abort ∷ Show ∷ Set ∷ Entry ∷ Close ∷ []

-- the first of them that passes, or a bad line
first_of : (Kind → Bool) → List Kind → Kind
first_of p [] = BadLine
first_of p (k ∷ ks) = cond (p k) k (first_of p ks)

unwrap_or-find : (p : Kind → Bool) (ks : List Kind) → unwrap_or (find p ks) BadLine ≡ first_of p ks
unfolding first_of
unwrap_or-find p [] = refl
unwrap_or-find p (k ∷ ks) = go (p k) (unwrap_or-find p ks)
  where
    go : (b : Bool) → unwrap_or (find p ks) BadLine ≡ first_of p ks → unwrap_or (cond b (Some k) (find p ks)) BadLine ≡ cond b k (first_of p ks)
    go true h = refl
    go false h = h

-- the one that is asked for is what the word names
pub kind_of_named : (two : Bool) (w : List ℕ) → unwrap_or (find (asks two w) named) BadLine ≡ kind_of two w
unfolding kind_of call_kind shift_kind slot_kind other_slot_kind close_kind first_named name first_of
kind_of_named two w = unwrap_or-find (asks two w) named

-- where there are two sheets, a look-up says which one's line it asks for
abbrev pub line_arity : Bool → ℕ
line_arity two = cond two 6 5

-- how many numbers a call has
abbrev pub arity : Bool → Kind → ℕ
arity two Check = 0
arity two Begin = 2
arity two Read = 7
arity two Second = 9
arity two Put = 8
arity two Advance = 2
arity two Close = 3
arity two Abort = 1
arity two Visit = 6
arity two Lookup = 5
arity two Line = line_arity two
arity two Add = 5
arity two Remove = 5
arity two Show = 1
arity two Set = 7
arity two Entry = line_numbers
arity two Sheets = 0
arity two BadLine = 0

-- The numbers.

abbrev pub no_numbers : Numbers
no_numbers = record { count = 0; values = replicate line_numbers 0 }

-- the numbers with one more
abbrev pub with_number : Numbers → ℕ → Numbers
with_number n v = record { count = n.count + 1; values = set n.values n.count v }

-- a word more: it must be a figure of 32 bits, and there must be room for it
unfoldable pub with_word : Numbers → List ℕ → Option Numbers
with_word n w = cond (leb line_numbers n.count) None (option_map (with_number n) (figure 0 4294967295 w))

-- what is done with numbers, if there are any
abbrev pub and_then : Option Numbers → (Numbers → Option Numbers) → Option Numbers
and_then None f = None
and_then (Some n) f = f n

-- all words, unless one is no number or one too many
unfoldable pub with_words : Numbers → List (List ℕ) → Option Numbers
with_words n [] = Some n
with_words n (w ∷ ws) = and_then (with_word n w) (λ m. with_words m ws)

-- The line.

abbrev pub bad_command : Command
bad_command = record { kind = BadLine; numbers = replicate line_numbers 0 }

-- a call with its numbers, if it has so many
abbrev pub called : Bool → Kind → Option Numbers → Command
called two k None = bad_command
called two k (Some n) = cond (eqb n.count (arity two k)) (record { kind = k; numbers = n.values }) bad_command

unfoldable pub called_by : Bool → List (List ℕ) → Command
called_by two [] = bad_command
called_by two (w ∷ ws) = called two (kind_of two w) (with_words no_numbers ws)

-- what the line says, on the joined sheet or on two
abbrev pub said : Bool → List ℕ → Command
said two line = called_by two (words line)

-- How it is read: up to the first space, then word by word.

-- the bytes before the first that is a mark
unfoldable pub up_to : ℕ → List ℕ → List ℕ
up_to mark [] = []
up_to mark (b ∷ s) = cond (eqb b mark) [] (b ∷ up_to mark s)

-- the first mark and the bytes after it
unfoldable from : ℕ → List ℕ → List ℕ
from mark [] = []
from mark (b ∷ s) = cond (eqb b mark) (b ∷ s) (from mark s)

-- the words after a space
unfoldable pub words_after : List ℕ → List (List ℕ)
words_after [] = []
words_after (b ∷ s) = words s

module _ (mark : ℕ) where
  take-up_to : (s : List ℕ) → take (length (up_to mark s)) s ≡ up_to mark s
  unfolding up_to
  take-up_to [] = refl
  take-up_to (b ∷ s) = go (eqb b mark) (take-up_to s)
    where
      go : (x : Bool) → take (length (up_to mark s)) s ≡ up_to mark s → take (length (cond x [] (b ∷ up_to mark s))) (b ∷ s) ≡ cond x [] (b ∷ up_to mark s)
      go true h = refl
      go false h = ap (λ (t : List ℕ). b ∷ t) h

  drop-up_to : (s : List ℕ) → drop (length (up_to mark s)) s ≡ from mark s
  unfolding up_to from
  drop-up_to [] = refl
  drop-up_to (b ∷ s) = go (eqb b mark) (drop-up_to s)
    where
      go : (x : Bool) → drop (length (up_to mark s)) s ≡ from mark s → drop (length (cond x [] (b ∷ up_to mark s))) (b ∷ s) ≡ cond x (b ∷ s) (from mark s)
      go true h = refl
      go false h = h

  -- the search of a mark
  position_or_len_up_to : (s : List ℕ) → position_or_len (λ b. eqb b mark) s ≡ length (up_to mark s)
  unfolding up_to
  position_or_len_up_to [] = refl
  position_or_len_up_to (b ∷ s) = go (eqb b mark) (position_or_len_up_to s)
    where
      go : (x : Bool) → position_or_len (λ c. eqb c mark) s ≡ length (up_to mark s) → cond (not x) (1 + position_or_len (λ c. eqb c mark) s) 0 ≡ length (cond x [] (b ∷ up_to mark s))
      go true h = refl
      go false h = omega arith

  pub length-up_to : (s : List ℕ) → length (up_to mark s) ≤ length s
  unfolding up_to
  length-up_to [] = omega arith
  length-up_to (b ∷ s) = go (eqb b mark) (length-up_to s)
    where
      go : (x : Bool) → length (up_to mark s) ≤ length s → length (cond x [] (b ∷ up_to mark s)) ≤ length (b ∷ s)
      go true h = omega arith
      go false h = omega arith

  pub unwrap_or-position : (s : List ℕ) → unwrap_or (position (λ b. eqb b mark) s) (length s) ≡ length (up_to mark s)
  unwrap_or-position s = go (position_or_len (λ b. eqb b mark) s) (ltb (position_or_len (λ b. eqb b mark) s) (length s)) (position_or_len_up_to s) refl
    where
      go : (k : ℕ) (x : Bool) → k ≡ length (up_to mark s) → ltb k (length s) ≡ x → unwrap_or (cond x (Some k) None) (length s) ≡ length (up_to mark s)
      go k true e f = e
      go k false e f = let g : length s ≤ k = ltb-false k (length s) f in let h = length-up_to s in omega arith

first_word : (s : List ℕ) → words s ≡ up_to 32 s ∷ words_after (from 32 s)
unfolding words longer words_after up_to from
first_word [] = refl
first_word (b ∷ s) = go (eqb b 32) (first_word s)
  where
    go : (x : Bool) → words s ≡ up_to 32 s ∷ words_after (from 32 s) → cond x ([] ∷ words s) (longer b (words s)) ≡ cond x [] (b ∷ up_to 32 s) ∷ words_after (cond x (b ∷ s) (from 32 s))
    go true h = refl
    go false h = ap (longer b) h

-- the line by its first word, which ends at a column, and the words after it
pub said_read : (two : Bool) (line : List ℕ) (end : ℕ) → end ≡ length (up_to 32 line) → called two (kind_of two (take end line)) (with_words no_numbers (words_after (drop end line))) ≡ said two line
unfolding called_by
said_read two line end e =
    ap₂ (λ (w : List ℕ) (s : List ℕ). called two (kind_of two w) (with_words no_numbers (words_after s)))
    (ap (λ (k : ℕ). take k line) e ∙ take-up_to 32 line) (ap (λ (k : ℕ). drop k line) e ∙ drop-up_to 32 line)
    ∙ ap (called_by two) (sym (first_word line))

-- one word more, between the space in a column and the end that was found
pub next_word : (line : List ℕ) (n : Numbers) (at end size : ℕ) → at < length line → end ≡ at + 1 + length (up_to 32 (drop (at + 1) line)) → size + (at + 1) ≡ end → and_then (with_word n (take size (drop (at + 1) line))) (λ m. with_words m (words_after (drop end line))) ≡ with_words n (words_after (drop at line))
unfolding with_words words_after
next_word line n at end size l e f =
    let s = drop (at + 1) line in
    let k : size ≡ length (up_to 32 s) = omega arith in
    let w : take size s ≡ up_to 32 s = ap (λ (j : ℕ). take j s) k ∙ take-up_to 32 s in
    let r : drop end line ≡ from 32 s = ap (λ (j : ℕ). drop j line) e ∙ (sym (drop-drop (length (up_to 32 s)) (at + 1) line) ∙ drop-up_to 32 s) in
    let h : words_after (drop at line) ≡ up_to 32 s ∷ words_after (from 32 s) =
    ap words_after (drop-cons line at 0 l) ∙ (ap (λ (j : ℕ). words (drop j line)) (sym (add-one at)) ∙ first_word s) in
    ap₂ (λ (x y : List ℕ). and_then (with_word n x) (λ m. with_words m (words_after y))) w r ∙ ap (with_words n) (sym h)

pub no_word : (line : List ℕ) (n : Numbers) (at : ℕ) → length line ≤ at → with_words n (words_after (drop at line)) ≡ Some n
unfolding with_words words_after
no_word line n at l = ap (λ (s : List ℕ). with_words n (words_after s)) (drop_of_length-le line l)

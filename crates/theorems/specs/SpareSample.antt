-- Spares by computation: which sheets are accepted, and a visit that leaves them. Document 02, note 6.
use Rattle.std.specs.Prelude.{◌≡◌, ◌∷◌}
use Rattle.lists.specs.Basics.{replicate, refl, ℕ, List, [], map, bytes}
use Rattle.model.specs.Lines.{text}
use Rattle.model.specs.Refusals.{refusal_of}
use Rattle.model.specs.SheetCalls.{check_conditions}
use Rattle.model.specs.Results.{visit}
use Rattle.model.specs.ByteHistories.{Bytes, after_on}
use Rattle.model.specs.TwoSpares.{two_conditions}
use Rattle.theorems.specs.Tables.{key_a, told}

abbrev coordinator : List ℕ
coordinator = text (bytes "   1 SRSSSSSSS" ∷ bytes "   1 COMMITTED" ∷ [])

abbrev spare : List ℕ
spare = replicate 107 32

abbrev pending : List ℕ
pending = bytes " 1  1  1     1     1  PREPARED     4   1      600      300 COMMITTED     3   0      500      250       7000"

abbrev finished : List ℕ
finished = bytes " 1  1  1     1     1 COMMITTED     4   1      600      300         -     0   0        0        0          0"

abbrev pub refused_with : List (List ℕ) → ℕ
refused_with lines = refusal_of (check_conditions (text lines) coordinator)

-- spares last, spares only, a spare above a record line, and no line at all
abbrev pub spared_sheets : List (List (List ℕ))
spared_sheets = (pending ∷ spare ∷ spare ∷ []) ∷ (spare ∷ spare ∷ []) ∷ (spare ∷ pending ∷ []) ∷ [] ∷ []

-- a visit finishes the line and leaves the spare
abbrev pub spared_bytes : List ℕ → Bytes
spared_bytes line = record { records = text (line ∷ spare ∷ []); coordinator = coordinator }

abbrev pub pending_spared : Bytes
pending_spared = spared_bytes pending

abbrev pub finished_spared : Bytes
finished_spared = spared_bytes finished

-- Two sheets.

abbrev plain_of_a : List ℕ
plain_of_a = bytes " 1  1  1     1     1      600      300"

abbrev spare_plain : List ℕ
spare_plain = replicate 38 32

abbrev bookkeeping_of_a : List ℕ
bookkeeping_of_a = bytes " 1  1  1     1     1 COMMITTED     4   1         -     0   0        0        0          0"

abbrev spare_bookkeeping : List ℕ
spare_bookkeeping = replicate 89 32

abbrev pub refused_two : List (List ℕ) → List (List ℕ) → ℕ
refused_two plain bookkeeping = refusal_of (two_conditions (text plain) (text bookkeeping) coordinator)

-- spares beside spares, a spare beside a record line on either sheet, and a spare more on one
abbrev pub spared_two : List ℕ
spared_two =
    refused_two (plain_of_a ∷ spare_plain ∷ []) (bookkeeping_of_a ∷ spare_bookkeeping ∷ [])
    ∷ refused_two (spare_plain ∷ spare_plain ∷ []) (bookkeeping_of_a ∷ spare_bookkeeping ∷ [])
    ∷ refused_two (plain_of_a ∷ spare_plain ∷ []) (spare_bookkeeping ∷ spare_bookkeeping ∷ [])
    ∷ refused_two (plain_of_a ∷ spare_plain ∷ []) (bookkeeping_of_a ∷ [])
    ∷ []

record Computed : Type 0 where
  pub checked : map refused_with spared_sheets ≡ 0 ∷ 0 ∷ 1 ∷ 1 ∷ []
  pub visited : after_on (visit key_a 7001) pending_spared ≡ finished_spared
  pub two : spared_two ≡ 0 ∷ 13 ∷ 13 ∷ 13 ∷ []

computed : Computed
unfolding told
computed = record { checked = refl; visited = refl; two = refl }

pub spares_checked : map refused_with spared_sheets ≡ 0 ∷ 0 ∷ 1 ∷ 1 ∷ []
spares_checked = computed.checked

pub spare-left : after_on (visit key_a 7001) pending_spared ≡ finished_spared
spare-left = computed.visited

pub two_checked : spared_two ≡ 0 ∷ 13 ∷ 13 ∷ 13 ∷ []
two_checked = computed.two

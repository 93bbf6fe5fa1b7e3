-- The text of a frame (document 01, "The program"): a header line, a line for each tag accepted, and a last line.
-- Assumes nothing.
use Rattle.std.specs.Prelude.{List, [], ◌∷◌, ◌++◌, ℕ, length}
use Rattle.types.specs.Choice.{if}
use Rattle.types.specs.Tag.{Number, application, context, opening, closing, Tag}
use Rattle.types.specs.Answer.{Answer, accepted, refused, Outcome, passed, stopped}
use Rattle.headers.specs.Header.{Header, row_of, field_numbers}
use Rattle.headers.specs.Reading.{header_from}
use Rattle.walk.specs.Walk.{Seen, Walk, walk_from}
use Rattle.text.specs.Text.{decimal, decimals, line}
use Rattle.dump.specs.Words.{application_word, context_word, open_word, close_word, ok_word, refused_word}

-- frame number, the word of the header's kind, its fields in order
unfoldable pub header_line : ℕ → Header → List ℕ
header_line frame h = line (decimal frame ∷ (row_of h.kind).word ∷ decimals (field_numbers h.fields))

-- the word of its class, or that it opens or closes a block, the tag's number, and its value, which an opening and a closing do not have
abbrev pub words_by : Number → ℕ → List (List ℕ)
words_by (application n) value = application_word ∷ decimal n ∷ decimal value ∷ []
words_by (context n) value = context_word ∷ decimal n ∷ decimal value ∷ []
words_by (opening n) value = open_word ∷ decimal n ∷ []
words_by (closing n) value = close_word ∷ decimal n ∷ []

abbrev pub tag_words : Tag → List (List ℕ)
tag_words t = words_by t.number t.value

-- frame number, place from the frame's start, depth, class, number, value
unfoldable pub tag_line : ℕ → Seen → List ℕ
tag_line frame s = line (decimal frame ∷ decimal s.place ∷ decimal s.depth ∷ tag_words s.tag)

abbrev pub tag_lines : ℕ → List Seen → List ℕ
tag_lines frame [] = []
tag_lines frame (s ∷ ss) = tag_line frame s ++ tag_lines frame ss

-- "ok" and how many tags
unfoldable pub ok_line : ℕ → ℕ → List ℕ
ok_line frame tags = line (decimal frame ∷ ok_word ∷ decimal tags ∷ [])

-- "refused" and the refusal's number
unfoldable pub refused_line : ℕ → ℕ → List ℕ
refused_line frame refusal = line (decimal frame ∷ refused_word ∷ decimal refusal ∷ [])

abbrev pub outcome_line : ℕ → ℕ → Outcome → List ℕ
outcome_line frame tags passed = ok_line frame tags
outcome_line frame tags (stopped n c) = refused_line frame n

-- the tags accepted, then how the walk ended
abbrev pub walk_text : ℕ → Walk → List ℕ
walk_text frame w = tag_lines frame w.tags ++ outcome_line frame (length w.tags) w.outcome

-- a refused header has no header line; not every kind has a walk
abbrev pub headed_text : ℕ → List ℕ → Answer Header → List ℕ
headed_text frame bytes (accepted h body) =
    header_line frame h ++ if (row_of h.kind).walks (walk_text frame (walk_from bytes body)) (ok_line frame 0)
headed_text frame bytes (refused n c) = refused_line frame n

-- the text of a frame of these bytes, by its number
unfoldable pub frame_text : ℕ → List ℕ → List ℕ
frame_text frame bytes = headed_text frame bytes (header_from bytes 0)

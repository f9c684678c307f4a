-- Request 14, log entries under headers: "In a new image, kinds 41 to 47 stand where 35 stood, and hold 1 to 7 entries of one region: thread, number, the line numbers, then
-- the old lines. All records of a region but its last hold seven. The save stays as it is, and a second one writes the new image."
use Rattle.std.specs.Prelude.{◌+◌, suc, zero, ℕ, ◌&&◌, cond, List, [], ◌++◌, ◌∷◌, map, eqb, drop, get_or, length, take}
use Rattle.rules.specs.Bytes.{line_bytes}
use Rattle.rules.specs.Image.{Logged, Persistent, head_record, key_bytes, line_record, no_logged, region_record, saved}
use Rattle.rules.specs.Lists.{flat}
use Rattle.rules.specs.Refusal.{is_set_up}
use Rattle.rules.specs.Run.{Wrote, run_file, wrote_into}
use Rattle.rules.specs.Tables.{Lent}
use Rattle.rules.specs.declared.Board.{Board}

-- ---- the records of a log

-- how many regions at the front of a list are region k, at most n
unfoldable pub same_front : ℕ → ℕ → List ℕ → ℕ
same_front zero k ks = 0
same_front (suc n) k [] = 0
same_front (suc n) k (q ∷ ks) = cond (eqb q k) (suc (same_front n k ks)) 0

-- the regions of entries
abbrev pub entry_keys : List Logged → List ℕ
entry_keys es = map (λ e. e.key) es

-- how many entries behind e share its record: those of its region that follow at once, so that the record holds seven at most
abbrev pub also_held : Logged → List Logged → ℕ
also_held e es = same_front 6 e.key (entry_keys es)

-- the entries of a log, record by record, in at most n records
unfoldable pub log_records_from : ℕ → List Logged → List (List Logged)
log_records_from zero es = []
log_records_from (suc n) [] = []
log_records_from (suc n) (e ∷ es) = (e ∷ take (also_held e es) es) ∷ log_records_from n (drop (also_held e es) es)

abbrev pub log_records : List Logged → List (List Logged)
log_records es = log_records_from (length es) es

-- ---- the image

-- the region of the entries of a record
abbrev pub record_key : List Logged → ℕ
record_key es = (get_or es 0 no_logged).key

-- "kinds 41 to 47 .. hold 1 to 7 entries of one region: thread, number, the line numbers, then the old lines"
unfoldable pub headed_record : List Logged → List ℕ
headed_record es = (40 + length es) ∷ (key_bytes (record_key es) ++ (map (λ e. e.line) es ++ flat (λ e. line_bytes e.old) es))

unfoldable pub encode_headed : Persistent → List ℕ
encode_headed p =
    head_record p.threads p.lines
    ++ (flat line_record p.medium ++ (flat region_record p.regions ++ (flat headed_record (log_records p.log) ++ (36 ∷ []))))

unfoldable pub image_headed : Board → List ℕ
image_headed b = encode_headed (saved b)

-- ---- saving

-- refused as the other save is, by the length of this image
unfoldable pub save_headed : Board → List ℕ → Wrote
save_headed b d =
    cond (is_set_up b.tables && b.tables.cut) (wrote_into (image_headed b) (length (image_headed b)) d)
    (record { answer = record { refusal = 6; value = 0 }; buffer = d })

-- the call that runs a file over lent memory and saves the new image
unfoldable pub image_headed_call : List ℕ → List ℕ → List ℕ → Wrote
image_headed_call file memory d = save_headed (run_file (Lent memory) file).board d

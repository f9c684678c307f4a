-- "Measures (all numbers decimal)." Crate measures has the same numbers for programs.
use Rattle.std.specs.Prelude.{◌*◌, ℕ}

-- "Threads T: 1 to 8. Lines L: 1 to 256. A line is eight words of 8 bytes"
abbrev pub most_threads : ℕ
most_threads = 8

abbrev pub most_lines : ℕ
most_lines = 256

abbrev pub line_words : ℕ
line_words = 8

-- request 5: a bit for each line, in words of 64 bits
abbrev pub word_bits : ℕ
word_bits = 64

abbrev pub read_words : ℕ
read_words = 4

-- request 9: "all bits set", a bit for each byte of a word
abbrev pub whole_word : ℕ
whole_word = 255

-- "Per thread: 4 regions in the modified list, 32 log entries, nesting depth 15, region numbers 1 to 65,535"
abbrev pub most_modified : ℕ
most_modified = 4

abbrev pub most_entries : ℕ
most_entries = 32

-- the log entries of all threads
abbrev pub most_logged : ℕ
most_logged = most_threads * most_entries

abbrev pub most_depth : ℕ
most_depth = 15

abbrev pub most_number : ℕ
most_number = 65535

-- "Per region: 8 line slots, 4 dependences"
abbrev pub most_slots : ℕ
most_slots = 8

abbrev pub most_deps : ℕ
most_deps = 4

-- "Dependence list: 32 entries shared by all threads"
abbrev pub most_regions : ℕ
most_regions = 32

-- request 8: "16 entries each", of two channels
abbrev pub most_in_channel : ℕ
most_in_channel = 16

-- "A waiting slot flies when its line is unlocked and its count is 4"
abbrev pub ripe_count : ℕ
ripe_count = 4

use Rattle.std.specs.Prelude.{◌++◌, codes}
use Rattle.cmd_entries.proofs.OneWordLaws.{conference_word, name, number_word, passing_word}
use Rattle.cmd_entries.specs.OneWord.{has_parts, is_base, is_conferences}
use Rattle.cmd_entries.proofs.laws.single_words.Goals as goal

pub returns : goal.returns
returns c = record {
  numbers = number_word;
  files = λ word found. passing_word (has_parts 4) word found (name 4 word);
  folders = λ word found. passing_word (has_parts 3) word found (name 3 word);
  bases = λ word found. passing_word is_base word found (name 4 (word ++ codes ".JHR"));
  choices = λ word found. passing_word is_conferences word found (conference_word word);
}

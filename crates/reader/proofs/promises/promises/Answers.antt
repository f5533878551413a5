use Rattle.reader.proofs.CardPromises.{text_read, read_as, notices, read_back}
use Rattle.reader.proofs.promises.promises.Goals as goal

pub returns : goal.returns
returns c lexicon lawful =
    record {
      text_is_read = text_read lexicon lawful;
      spelled_is_read = read_as lexicon lawful;
      damage_is_noticed = notices lexicon lawful;
      read_is_lawful = λ line f e. (read_back lexicon lawful line f e).fields;
    }

-- The replies of the code, as those of the definitions.
--     reply_of r     the reply
use Rattle.transcript.specs.Replies as definition
use Rattle.reply_text.specs.Answers.{answer_of}
use Rattle.reply_text.specs.declared.reply.Reply.{Reply}
use Rattle.reply_text.specs.declared.reply.Reply.TheVariants.{Silent, Bad, Later, Attached, Faceted, WasCut, WentBack, Seen, After, NotYet, Held, Taken, Released, HeldAlready, HoldsFull, NoName, Computed, There, Face, Full, NoVersion, Quit}

abbrev pub reply_of : Reply → definition.Reply
reply_of Silent = definition.Silent
reply_of (Bad fault) = definition.Bad fault
reply_of Later = definition.Later
reply_of (Attached id entries) = definition.Attached id entries
reply_of (Faceted added entries) = definition.Faceted added entries
reply_of (WasCut version entries) = definition.WasCut version entries
reply_of (WentBack version entries) = definition.WentBack version entries
reply_of (Seen version entries) = definition.Seen version entries
reply_of (After version entries) = definition.SeenFrom version entries
reply_of (NotYet entries) = definition.NotYet entries
reply_of (Held name version) = definition.Holds name version
reply_of (Taken name version) = definition.HasTaken name version
reply_of (Released name) = definition.HasReleased name
reply_of (HeldAlready name) = definition.HoldsAlready name
reply_of HoldsFull = definition.HoldsFull
reply_of (NoName name) = definition.NoName name
reply_of (Computed version verb a) = definition.Computed version verb (answer_of a)
reply_of (There id) = definition.IsThere id
reply_of (Face t) = definition.LacksFace t
reply_of (Full n) = definition.IsFull n
reply_of (NoVersion n) = definition.NoVersion n
reply_of Quit = definition.HasQuit

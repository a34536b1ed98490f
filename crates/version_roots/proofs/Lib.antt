mod KeptLaws
mod BookLaws
mod LocalLaws

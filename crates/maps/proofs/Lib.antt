mod KnownMaps
pub mod ImageLaws
pub mod RefusalLaws
pub mod PullLaws
pub mod ProductLaws
pub mod CompositionLaws

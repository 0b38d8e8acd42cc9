pub mod View
pub mod CallFile
pub mod Space
pub mod Standing
pub mod Shows
